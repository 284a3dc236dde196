-- What the code's answers mean for the definition of the run program's input. Assumes nothing.
use Rattle.std.specs.Prelude.{ℕ, ◌+◌, ◌≤◌, ◌≡◌, List, [], ◌∷◌, ◌++◌, T, length, take, drop, Option, None, Some, Result, Ok, Err}
use Rattle.std.specs.Float.{binary64}
use Rattle.std.specs.Float.Ieee.{fits}
use Rattle.text.specs.Answer.{Answer, Refused, Got}
use Rattle.text.specs.Literal.{bytes}
use Rattle.text.specs.Text.{LF, pipe, split}
use Rattle.position.specs.Feed.{Input, input_of}
use Rattle.position.specs.Run.{cut, ended, bar_line, add_signal, input_line}
use Rattle.bar.specs.declared.BarNumbers.{BarNumbers}
use Rattle.run_input.specs.declared.InputLine.{InputLine}
use Rattle.run_input.specs.declared.InputLine.TheVariants.{Bar, Signal}
use Rattle.run_input.specs.declared.InputError.{InputError}
use Rattle.run_input.specs.declared.InputError.TheVariants.{Malformed, BadNumber}

-- ---- the line `-`

-- it starts at p of s: the sheet's lines are before it, the bars' behind its LF
pub record CutAt (s : List ℕ) (p : ℕ) : Type 0 where
  pub room : p + 2 ≤ length s
  pub sheet : List (List ℕ)
  pub is : cut (split LF s) ≡ Some (record { sheet = sheet; bars = split LF (drop (p + 2) s) })
  pub text : ended sheet ≡ take p s

abbrev pub CutAs : List ℕ → Option ℕ → Type 0
CutAs s (Some p) = CutAt s p
CutAs s None = cut (split LF s) ≡ None

-- ---- a line

-- the number of each refusal
abbrev pub input_refusal : InputError → ℕ
input_refusal Malformed = 2
input_refusal BadNumber = 3

-- what the line l does, by what it says, to the bars before it; a signal's `key|value` stands behind its `S|`
abbrev pub line_do : List ℕ → List Input → Result InputLine InputError → Answer (List Input)
line_do l is (Ok (Bar b)) = Got (is ++ input_of b [] ∷ [])
line_do l is (Ok Signal) = add_signal (drop 2 l ++ LF ∷ []) is
line_do l is (Err e) = Refused (input_refusal e)

-- a price is a double, and its 16 digits are in the line; so are the letter and the `|` before a signal
abbrev pub LineOk : List ℕ → Result InputLine InputError → Type 0
LineOk l (Ok (Bar b)) = T (fits binary64 b.price) × (16 ≤ length l)
LineOk l (Ok Signal) = 2 ≤ length l
LineOk l (Err e) = Unit {0}

-- r is what the line l says
pub record LineAs (l : List ℕ) (r : Result InputLine InputError) : Type 0 where
  pub is : (is : List Input) → line_do l is r ≡ input_line is (split pipe l)
  pub ok : LineOk l r

-- a bar's line, behind its first field: the bar, or 3
abbrev pub bar_do : Option BarNumbers → Answer Input
bar_do (Some b) = Got (input_of b [])
bar_do None = Refused 3

-- a bar is as above
abbrev pub BarOk : List ℕ → Option BarNumbers → Type 0
BarOk l (Some b) = LineOk l (Ok (Bar b))
BarOk l None = Unit {0}

-- r is what a B line says whose fields behind the first one are those of l
pub record BarAs (l : List ℕ) (r : Option BarNumbers) : Type 0 where
  pub is : bar_do r ≡ bar_line (bytes "B" ∷ split pipe l)
  pub ok : BarOk l r
