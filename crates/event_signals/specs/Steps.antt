-- What the steps of the reading answer: one line more. Assumes nothing.
use Rattle.event_signals.specs.declared.SignalsError.{SignalsError}
use Rattle.std.specs.Prelude.{ℕ, ◌+◌, ◌<◌, ◌≤◌, ◌≡◌, List, length, get_or, Result, Ok, Err}
use Rattle.event.specs.Signals.{read_signals}
use Rattle.event_find.specs.Places.{lines_at, LinesOk}
use Rattle.event_line.specs.Fields.{signals_from}
use Rattle.event_signals.specs.Read.{SignalsAs}

-- n lines are read, and s goes on from i
pub record Reading (s starts mids prints : List ℕ) (n i : ℕ) : Type 0 where
  pub lines : LinesOk s starts mids prints n
  pub here : get_or starts n 0 ≡ i
  pub within : i ≤ length s
  pub still : signals_from (lines_at s starts mids n) s i ≡ read_signals s

-- one more is read, and s goes on from r
pub record Onward (s starts mids prints : List ℕ) (n i r : ℕ) : Type 0 where
  pub more : i < r
  pub reading : Reading s starts mids prints (n + 1) r

abbrev pub AddedAs : List ℕ → List ℕ → List ℕ → List ℕ → ℕ → ℕ → Result ℕ SignalsError → Type 0
AddedAs s starts mids prints n i (Ok r) = Onward s starts mids prints n i r
AddedAs s starts mids prints n i (Err why) = SignalsAs s starts mids prints (Err why)
