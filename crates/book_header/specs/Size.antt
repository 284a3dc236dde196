-- What is known of a book's size, and of a header that can be written. Assumes nothing.
use Rattle.std.specs.Prelude.{ℕ, ◌+◌, ◌*◌, ◌≤◌, ◌≡◌, Bool, true, List, length, Option, Some, None}
use Rattle.std.specs.Float.Ieee.Scale.{finite}
use Rattle.position.specs.declared.LastEvent.{LastEvent}
use Rattle.text.specs.Answer.{Answer, Refused, Got, given}
use Rattle.table.specs.Layout.{table_length}
use Rattle.book.specs.Layout.{bar_limit, capacity as Layout·capacity}
use Rattle.book.specs.Calls.{sized as Calls·sized}

-- b has 96 + 64C bytes, for a C in range
pub record SizeOk (b : List ℕ) (c : ℕ) : Type 0 where
  pub long : length b ≡ 96 + 64 * c
  pub least : 1 ≤ c
  pub most : c ≤ bar_limit

-- the number and the capacity of each answer
abbrev pub sized_of : Option ℕ → Answer ℕ
sized_of (Some c) = Got c
sized_of None = Refused 8

abbrev pub RoomOk : List ℕ → List ℕ → Option ℕ → Type 0
RoomOk t b (Some c) = (length t ≡ table_length) × SizeOk b c
RoomOk t b None = Unit {0}

abbrev pub BarsOk : List ℕ → Option ℕ → Type 0
BarsOk b (Some c) = SizeOk b c
BarsOk b None = Unit {0}

-- r is what the length of a book says
pub record CapacityAs (b : List ℕ) (r : Option ℕ) : Type 0 where
  pub is : sized_of r ≡ given 8 (Layout·capacity b)
  pub ok : BarsOk b r

-- r is what the lengths of a table and of a book say
pub record SizedAs (t b : List ℕ) (r : Option ℕ) : Type 0 where
  pub is : sized_of r ≡ Calls·sized t b
  pub ok : RoomOk t b r

-- a reference's price is finite
abbrev pub priced : Option LastEvent → Bool
priced None = true
priced (Some r) = finite r.bar.price
