-- The entries of a list of bars with revisions, and every refusal of one. Assumes nothing.
use Rattle.std.specs.Prelude.{ℕ, cond, ◌&&◌, List, [], ◌∷◌, eqb, length, get_or, take}
use Rattle.text.specs.Answer.{Answer, Got, ◌>>=◌, must}
use Rattle.text.specs.Number.{unsigned}
use Rattle.text.specs.Text.{LF, pipe, has, empty, split}
use Rattle.bar.specs.Bar.{bar_of}
use Rattle.bar.specs.declared.Bar.{Bar}
use Rattle.event.specs.Signals.{read_signals}
use Rattle.position.specs.Step.{Fed}
use Rattle.position.specs.Run.{bar_line}
use Rattle.revise.specs.Lines.{lines, ended, is_bar, is_signal, signal_lines}

-- "each with a u32 revision"
abbrev pub last_revision : ℕ
last_revision = 4_294_967_295

-- a bar with its revision
pub record Revision : Type 0 where
  pub bar : Bar
  pub number : ℕ

-- an entry: its bar and signals, its revision, and "the bytes of their S lines"
pub record Entry : Type 0 where
  pub fed : Fed
  pub revision : ℕ
  pub lines : List ℕ

-- the fields of a line, without its LF
abbrev pub fields_in : List ℕ → List (List ℕ)
fields_in l = split pipe (get_or (split LF l) 0 [])

-- "2, 3 and 11 of its B line": "the run program's B .. lines with the revision as a last B field"
unfoldable pub first_line : List ℕ → Answer Revision
first_line l = do
  _ ← must 2 (is_bar l && has LF l && eqb (length (fields_in l)) 6)
  i ← bar_line (take 5 (fields_in l))
  r ← unsigned last_revision (get_or (fields_in l) 5 [])
  b ← bar_of i.id i.instant i.offset i.price
  Got (record { bar = b; number = r })

-- an entry by its first line and the lines behind it: "2, 3 and 11 of its B line and the signal checks of its S lines without `S|`"
unfoldable pub entry : List ℕ → List (List ℕ) → Answer Entry
entry l ls = do
  r ← first_line l
  signals ← read_signals (signal_lines 2 ls)
  Got (record { fed = record { bar = r.bar; signals = signals }; revision = r.number; lines = signal_lines 0 ls })

-- "entry by entry": an S line was read with the entry before it; "another tag ends the entry and gives 2"
unfoldable pub entries : List (List ℕ) → Answer (List Entry)
entries [] = Got []
entries (l ∷ ls) = cond (is_signal l) (entries ls) (entry l ls >>= λ e. entries ls >>= λ es. Got (e ∷ es))

-- 2 is given too by "an S line before any B", and a missing last LF "counts at its line"
unfoldable pub read_entries : List ℕ → Answer (List Entry)
read_entries s = do
  _ ← must 2 (empty (signal_lines 0 (lines s)))
  es ← entries (lines s)
  _ ← must 2 (ended s)
  Got es
