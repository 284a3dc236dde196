-- What the code answers for a text of a bar's signals, and the lines that it keeps. Assumes nothing.
use Rattle.event_signals.specs.declared.SignalsError.{SignalsError}
use Rattle.event_signals.specs.declared.SignalsError.TheVariants.{PastLimit, NotUtf8, Malformed, Twice}
use Rattle.std.specs.Prelude.{ℕ, ◌<◌, ◌≤◌, ◌≡◌, List, length, Result, Ok, Err}
use Rattle.text.specs.Answer.{Answer, Refused, Got}
use Rattle.event.specs.Signals.{Line, line_limit, read_signals}
use Rattle.event_find.specs.Places.{lines_at, LinesOk}

-- the number and the lines of each answer
abbrev pub signals_refusal : SignalsError → ℕ
signals_refusal PastLimit = 7
signals_refusal NotUtf8 = 1
signals_refusal Malformed = 2
signals_refusal Twice = 12

abbrev pub signals_of : List ℕ → List ℕ → List ℕ → Result ℕ SignalsError → Answer (List Line)
signals_of s starts mids (Ok n) = Got (lines_at s starts mids n)
signals_of s starts mids (Err e) = Refused (signals_refusal e)

abbrev pub ReadOk : List ℕ → List ℕ → List ℕ → List ℕ → Result ℕ SignalsError → Type 0
ReadOk s starts mids prints (Ok n) = LinesOk s starts mids prints n
ReadOk s starts mids prints (Err e) = Unit {0}

-- r is what s says, with the places and prints as they are at exit
pub record SignalsAs (s starts mids prints : List ℕ) (r : Result ℕ SignalsError) : Type 0 where
  pub is : signals_of s starts mids r ≡ read_signals s
  pub ok : ReadOk s starts mids prints r

-- what the places and prints of all lines need
pub record Room (starts mids prints : List ℕ) : Type 0 where
  pub starts-room : line_limit < length starts
  pub mids_room : line_limit ≤ length mids
  pub prints_room : line_limit ≤ length prints
