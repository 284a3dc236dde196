-- Hold row i of a book that passed the full check, and each refusal. Assumes nothing.
use Prim.Native.Nat.{ℕ, ◌+◌, ◌-◌, ◌<◌, ◌≤◌}
use native.Mathlib.Omega.{arith}
use mathlib.Core.Path.{◌≡◌, ◌∙◌, sym, ap}
use mathlib.Core.Bool.{true}
use mathlib.Core.List.{List, [], map}
use Rattle.book.specs.declared.OpenError.{OpenError}
use Rattle.book.specs.Opened.{open_refusal}
use Rattle.std.specs.Prelude.{None, Some, Ok, Err, slice_get}
use lib.IntN.{ℤ}
use lib.ListN.{take, drop, length-map}
use Rattle.le.specs.Le.{part}
use Rattle.le.specs.Field.{u32}
use Rattle.le.proofs.Laws.{part_lent}
use Rattle.text.specs.Answer.{Answer, Refused, given}
use Rattle.text.proofs.Conditions.{fact}
use Rattle.sheet.specs.Sheet.{Sheet}
use Rattle.bar.specs.Bar.{time_ok}
use Rattle.position.specs.Rows.{hold_row, hold_rows}
use Rattle.position.specs.declared.Hold.{Hold}
use Rattle.position.specs.declared.HoldRow.{HoldRow}
use Rattle.book.specs.Layout.{hold_place, hold_of, hold_slots, holds_of}
use Rattle.book.specs.Check.{hold_ok, full_ok}
use Rattle.row.specs.Calls.{row_at, hold_do}
use Rattle.book_header.specs.Size.{SizeOk}
use Rattle.book_header_check.proofs.Passed.{passed}
use Rattle.row_open.specs.Open.{OpenedAs}
use Rattle.row_open.proofs.Laws.{opened, not_opened}
use Rattle.row_holds.specs.Held.{Held}
use Rattle.list.proofs.Elements.{some_at, none-at, map_some}
use Rattle.book.proofs.Slots.{slots_length, slots_at, slot_has}

-- ---- what the full check gives

pub held : (n c : ℕ) (b : List ℕ) → SizeOk b c → full_ok n c b ≡ true → Held b
unfolding full_ok
held n c b z h = record { room = omega (arith, z.long, (passed c b (fact _ h 0)).holds); each = fact _ h 2 }

-- ---- the hold with that index

-- the rows of a book's holds
row_some : (b : List ℕ) (k : ℕ) → k < u32 b 0 → slice_get (hold_rows (holds_of b)) k ≡ Some (hold_row (hold_of (part b (hold_place k) 32)))
unfolding hold_rows holds_of hold_slots
row_some b k l =
    let all = hold_slots b in
    map_some hold_row (map hold_of all) k (hold_of (part b (hold_place k) 32))
    (map_some hold_of all k (part b (hold_place k) 32)
    (some_at all [] k (omega (arith, slots_length b (hold_place 0) (u32 b 0))) ∙ ap Some (slots_at b (hold_place 0) (u32 b 0) k l)))

pub row-none : (b : List ℕ) (k : ℕ) → u32 b 0 ≤ k → slice_get (hold_rows (holds_of b)) k ≡ None
unfolding hold_rows holds_of hold_slots
row-none b k l =
    let all = hold_slots b in
    none-at (map hold_row (map hold_of all)) k
    (omega (arith, length-map (map hold_of all) hold_row, length-map all hold_of, slots_length b (hold_place 0) (u32 b 0)))

-- the hold as it is read from the part that is lent
module _ {b : List ℕ} (h : Held b) (k : ℕ) (l : k < u32 b 0) {o : Hold} (e : o ≡ hold_of (take (hold_place k + 32 - hold_place k) (drop (hold_place k) b))) where
  pub read_is : o ≡ hold_of (part b (hold_place k) 32)
  read_is = e ∙ ap hold_of (part_lent b (hold_place k) 32)

  pub read-time : time_ok o.time ≡ true
  unfolding hold_ok hold_slots hold_of
  read-time = rw read_is (fact _ (slot_has hold_ok b (hold_place 0) (u32 b 0) k h.each l) 0)

  pub read-row : {r : HoldRow} → r ≡ hold_row o → Some r ≡ slice_get (hold_rows (holds_of b)) k
  read-row f = ap Some (f ∙ ap hold_row read_is) ∙ sym (row_some b k l)

-- ---- the answer

module _ (t b : List ℕ) (i : ℤ) where
  -- the row of a book that is opened
  abbrev asked : ℕ → Sheet → Answer HoldRow
  asked c s = given 15 (row_at (hold_rows (holds_of b)) i)

  pub no_book : {e : OpenError} → OpenedAs t b (Err e) → Refused (open_refusal e) ≡ hold_do t b i
  unfolding hold_do
  no_book z = not_opened asked z

  pub answered : {c : ℕ} {r : Answer HoldRow} → OpenedAs t b (Ok c) → r ≡ given 15 (row_at (hold_rows (holds_of b)) i) → r ≡ hold_do t b i
  unfolding hold_do
  answered z e = e ∙ opened asked z
