-- What writing rows asks of the numbers that compiling keeps: they stand in the buffers, and a name's place fits its field. Assumes nothing.
use Rattle.std.specs.Prelude.{ℕ, ◌+◌, ◌*◌, ◌<◌, ◌≤◌, ◌≡◌, List, length, get_or}
use Rattle.text.specs.Read.{Put}
use Rattle.sheet.specs.Places.{clause_numbers, event_numbers}
use Rattle.table_parts.specs.Draft.{names_length}

-- t was written, in n bytes
pub record PutOf (n : ℕ) (before after : List ℕ) (at : ℕ) (t : List ℕ) (r : ℕ) : Type 0 where
  pub put : Put before after at t r
  pub near : r ≡ at + n

-- n events
pub record EventsFit (es : List ℕ) (n : ℕ) : Type 0 where
  pub room : event_numbers * n ≤ length es
  pub near : (i : ℕ) → i < n → names_length es i < 65536

-- n clauses
pub record ClausesFit (cs numbers codes : List ℕ) (n : ℕ) : Type 0 where
  pub room : clause_numbers * n ≤ length cs
  pub keys : n ≤ length numbers
  pub values : 3 * n ≤ length codes

-- n words
pub record WordsFit (starts orders ranks : List ℕ) (n : ℕ) : Type 0 where
  pub starts-room : n < length starts
  pub orders-room : n ≤ length orders
  pub ranks-room : n ≤ length ranks
  pub rising : (i : ℕ) → i < n → get_or starts i 0 ≤ get_or starts (i + 1) 0

-- word i of them
pub record WordFit (starts orders ranks : List ℕ) (i : ℕ) : Type 0 where
  pub starts-room : i + 1 < length starts
  pub orders-room : i < length orders
  pub ranks-room : i < length ranks
  pub rising : get_or starts i 0 ≤ get_or starts (i + 1) 0
