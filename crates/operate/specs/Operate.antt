-- Operates: codes 0 to 6, each with two spellings. Assumes nothing.
use Rattle.std.specs.Prelude.{ℕ, suc, cond, ◌||◌, List, [], ◌∷◌, ltb, Option, None, Some, slice_get}
use Rattle.text.specs.Answer.{Answer, Refused, Got, ◌>>=◌, given}
use Rattle.text.specs.Literal.{bytes}
use Rattle.text.specs.Text.{same}
use Rattle.utf8.specs.Alone.{alone}

-- "HL 持多, HS 持空, HO 持币, LO 开多, LE 平多, SO 开空, SE 平空, codes 0 to 6"
unfoldable pub latin : List (List ℕ)
latin = bytes "HL" ∷ bytes "HS" ∷ bytes "HO" ∷ bytes "LO" ∷ bytes "LE" ∷ bytes "SO" ∷ bytes "SE" ∷ []

unfoldable pub chinese : List (List ℕ)
chinese = bytes "持多" ∷ bytes "持空" ∷ bytes "持币" ∷ bytes "开多" ∷ bytes "平多" ∷ bytes "开空" ∷ bytes "平空" ∷ []

-- the codes that the machine asks for
abbrev pub HO : ℕ
HO = 2

abbrev pub LO : ℕ
LO = 3

abbrev pub LE : ℕ
LE = 4

abbrev pub SO : ℕ
SO = 5

abbrev pub SE : ℕ
SE = 6

-- the first code from k on whose spellings, of which the lists hold the rest, have s among them
unfoldable pub code_from : ℕ → List ℕ → List (List ℕ) → List (List ℕ) → Option ℕ
code_from k s [] cs = None
code_from k s (l ∷ ls) [] = None
code_from k s (l ∷ ls) (c ∷ cs) = cond (same s l || same s c) (Some k) (code_from (suc k) s ls cs)

-- "either spelling becomes the code"; "case counts"; any other text: 4
unfoldable pub operate_of : List ℕ → Answer ℕ
operate_of s = given 4 (code_from 0 s latin chinese)

-- "A signal or operate alone: 7, 1, 2 (`|` or LF), then 5 and 6, or 4."
unfoldable pub operate_alone : List ℕ → Answer ℕ
operate_alone s = do
  _ ← alone s
  operate_of s

-- a code, or 4 for any other number
unfoldable pub known : ℕ → Answer ℕ
known n = cond (ltb n 7) (Got n) (Refused 4)

-- "An operate code becomes its Chinese name (any other number: 4)"
unfoldable pub operate_name : ℕ → Answer (List ℕ)
operate_name code = given 4 (slice_get chinese code)
