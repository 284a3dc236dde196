-- What a request for an event's name answers, and the buffer at exit. Assumes nothing.
use Rattle.row.specs.Read.{row_read_of}
use Rattle.row.specs.declared.RowError.{RowError}
use Rattle.std.specs.Prelude.{ℕ, ◌≡◌, List, ℤ, length, Result}
use Rattle.text.specs.Answer.{Got, ◌>>=◌}
use Rattle.row.specs.Calls.{event_name_do, event_name_bytes}

-- r is the length of event i's name, and the buffer that was `before` has the name
pub record NameAs (t : List ℕ) (i : ℤ) (before after : List ℕ) (r : Result ℕ RowError) : Type 0 where
  pub is : row_read_of r ≡ (event_name_do t i before >>= λ name. Got (length name))
  pub bytes : after ≡ event_name_bytes before (event_name_do t i before)
