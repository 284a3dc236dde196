-- What the steps of reading one line answer: the end of a field, a line of two fields. Assumes nothing.
use Rattle.std.specs.Prelude.{ℕ, ◌+◌, ◌≤◌, ◌<◌, ◌≡◌, ◌≢◌, List, [], ◌∷◌, length, get_or, Option, Some, None}
use Rattle.std.proofs.Math.Seq.{slice}
use Rattle.text.specs.Answer.{Answer, Refused, ◌>>=◌}
use Rattle.text.specs.Text.{split, each_line, LF, pipe}
use Rattle.event_line.specs.declared.LineEnds.{LineEnds}
use Rattle.event.specs.Signals.{Line, signal_line}

-- ---- the end of a field

-- b ends a field and x is its place k, or b does not and x is 64
pub data Placed (b k x : ℕ) : Type 0 where
  mark : x ≡ k → (b ≢ LF → b ≡ pipe) → Placed b k x
  plain : x ≡ 64 → b ≢ LF → b ≢ pipe → Placed b k x

-- r is the place of the first byte of s in from..to that ends a field, or to where there is none
pub record FieldEnd (s : List ℕ) (from to r : ℕ) : Type 0 where
  pub low : from ≤ r
  pub high : r ≤ to
  pub lines : (j : ℕ) → from ≤ j → j < r → get_or s j 0 ≢ LF
  pub fields : (j : ℕ) → from ≤ j → j < r → get_or s j 0 ≢ pipe
  pub last : r < to → get_or s r 0 ≢ LF → get_or s r 0 ≡ pipe

-- ---- a line

-- what s says from a place on, behind the lines ls
abbrev pub signals_from : List Line → List ℕ → ℕ → Answer (List Line)
signals_from ls s i = each_line signal_line ls (split LF (slice i (length s) s))

-- a line of two fields follows `from`, its `|` at mid and its LF at end
pub record TwoFields (s : List ℕ) (from mid end : ℕ) : Type 0 where
  pub first : from ≤ mid
  pub second : mid < end
  pub within : end < length s
  pub next : (ls : List Line) → signals_from ls s from ≡ (signal_line ls (slice from mid s ∷ slice (mid + 1) end s ∷ []) >>= λ y. signals_from y s (end + 1))

abbrev pub LineFrom : List ℕ → ℕ → Option LineEnds → Type 0
LineFrom s from (Some e) = TwoFields s from e.mid e.end
LineFrom s from None = (ls : List Line) → signals_from ls s from ≡ Refused 2
