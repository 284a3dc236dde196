-- What the full check gives of a book's records, and of the two of a pair. Assumes nothing.
use Prim.Native.Nat.{ℕ, zero, suc, ◌+◌, ◌-◌, ◌*◌, ◌<◌, ◌≤◌}
use native.Mathlib.Omega.{arith}
use mathlib.Core.Path.{◌≡◌, ◌∙◌, ap}
use mathlib.Core.Bool.{true, false≢true}
use mathlib.Core.List.{List}
use borrow.Author.Tests.{ltb-true}
use lib.ListN.{length, take, drop}
use Rattle.le.specs.Le.{part}
use Rattle.le.specs.Field.{u8, u16, u32}
use Rattle.le.proofs.Laws.{part_lent}
use Rattle.text.proofs.Conditions.{fact}
use Rattle.position.specs.declared.Record.{Record}
use Rattle.book.specs.Layout.{record_place, record_of, record_slots, description_at}
use Rattle.book.specs.Check.{description_ok, record_ok, full_ok}
use Rattle.book_header.specs.Size.{SizeOk}
use Rattle.row_sequence.specs.Named.{NamedIn}
use Rattle.book.proofs.Slots.{slot_has}
use Rattle.book_header_check.proofs.Passed.{passed}
use Rattle.row_pairs.specs.Found.{Traded, record_at, Shown}

pub traded : (n c : ℕ) (b : List ℕ) → SizeOk b c → full_ok n c b ≡ true → Traded n c b
unfolding full_ok
traded n c b z h =
    let k = passed c b (fact _ h 0) in
    record { room = omega (arith, z.long, k.holds, k.records); each = fact _ h 4 }

-- an event that a record names is in the table
named : (n code event : ℕ) → description_ok n code event ≡ true → NamedIn n (description_at code event)
named n zero event h = absurd (false≢true h)
named n (suc zero) event h = ltb-true event n h
named n (suc (suc zero)) event h = tt
named n (suc (suc (suc k))) event h = tt

shown : (n : ℕ) (o : List ℕ) → record_ok n o ≡ true → Shown n (record_of o)
unfolding record_ok record_of
shown n o h = record { time = fact _ h 0; named = named n (u8 o 26) (u16 o 28) (fact _ h 5) }

module _ {n c : ℕ} {b : List ℕ} (h : Traded n c b) (j : ℕ) (l : j < u32 b 4) where
  -- record number j lies within the book
  pub record_room : record_place c j + 32 ≤ length b
  record_room = omega (arith, h.room)

  pub record_shown : Shown n (record_at c b j)
  unfolding record_slots
  record_shown =
      let e : record_place c 0 + 32 * j ≡ record_place c j = omega arith in
      shown n (part b (record_place c j) 32) (rw e at (slot_has (record_ok n) b (record_place c 0) (u32 b 4) j h.each l))

-- record number j, read from the part at p that is lent
pub record_lent : (c : ℕ) (b : List ℕ) (j p : ℕ) {r : Record} → p ≡ record_place c j → r ≡ record_of (take (p + 32 - p) (drop p b)) → r ≡ record_at c b j
record_lent c b j p e f = f ∙ ap record_of (part_lent b p 32) ∙ ap (λ (q : ℕ). record_of (part b q 32)) e
