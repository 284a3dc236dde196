-- The hold rows of a book one by one: each can be written, field by field. Assumes nothing.
use Prim.Native.Nat.{ℕ, zero, suc, ◌+◌, ◌<◌, ◌≤◌}
use native.Mathlib.Omega.{arith}
use mathlib.Core.Path.{◌≡◌, ◌∙◌, refl, ap}
use mathlib.Core.Bool.{true, false≢true}
use mathlib.Core.List.{List, [], ◌∷◌, map}
use lib.IntN.{ℤ}
use lib.ListN.{length, get_or, drop, length-map, drop_of_length-le, get_or-map}
use lib.Seq.{drop-cons}
use Rattle.le.specs.Le.{part, patch}
use Rattle.le.specs.Field.{u8, u32, f64, put32, put_i32, put_i64, put_f64}
use Rattle.le.proofs.Laws.{length-le_bytes}
use Rattle.text.specs.Read.{Put}
use Rattle.text.proofs.Conditions.{fact}
use Rattle.double.specs.Double.{yield_ok}
use Rattle.position.specs.Rows.{hold_row, hold_rows}
use Rattle.position.specs.declared.HoldRow.{HoldRow}
use Rattle.book.specs.Layout.{yield_flag, yield_bytes, yield_at, hold_place, hold_of, hold_slots, holds_of}
use Rattle.book.specs.Check.{stored_yield_ok, hold_ok}
use Rattle.book.proofs.Lengths.{yield-length}
use Rattle.book.proofs.Slots.{slots_length, slots_at, slot_has}
use Rattle.book_field.proofs.Laws.{put_first, put_next, not_nan}
use Rattle.row_holds.specs.Held.{Held}
use Rattle.row_blocks.specs.Blocks.{hold_row_bytes, hold_block}
use Rattle.row_blocks_holds.specs.Row.{row_at, RowNumbers}

-- ---- the rows of a book

module _ (b : List ℕ) where
  pub rows-length : length (hold_block b) ≡ u32 b 0
  unfolding hold_rows holds_of hold_slots
  rows-length =
      let all = hold_slots b in
      length-map (map hold_row (map hold_of all)) hold_row_bytes ∙ length-map (map hold_of all) hold_row ∙ length-map all hold_of ∙ slots_length b (hold_place 0) (u32 b 0)

  row_is : (i : ℕ) → i < u32 b 0 → get_or (hold_block b) i (hold_row_bytes (hold_row (hold_of []))) ≡ row_at b i
  unfolding hold_rows holds_of hold_slots
  row_is i h =
      let all = hold_slots b in
      get_or-map hold_row_bytes (map hold_row (map hold_of all)) i (hold_row (hold_of []))
      ∙ ap hold_row_bytes (get_or-map hold_row (map hold_of all) i (hold_of []) ∙ ap hold_row (get_or-map hold_of all i [] ∙ ap hold_of (slots_at b (hold_place 0) (u32 b 0) i h)))

  -- what a walk over them meets next
  pub row_next : (i : ℕ) → i < u32 b 0 → drop i (hold_block b) ≡ row_at b i ∷ drop (i + 1) (hold_block b)
  row_next i h =
      let e : suc i ≡ i + 1 = omega arith in
      drop-cons (hold_block b) i (hold_row_bytes (hold_row (hold_of []))) (omega (arith, rows-length))
      ∙ ap (λ (r : List ℕ). r ∷ drop (suc i) (hold_block b)) (row_is i h)
      ∙ ap (λ (k : ℕ). row_at b i ∷ drop k (hold_block b)) e

  pub row-none : (i : ℕ) → u32 b 0 ≤ i → drop i (hold_block b) ≡ []
  row-none i h = drop_of_length-le (hold_block b) {i = i} (omega (arith, rows-length))

-- ---- its doubles

stored : (b : List ℕ) (n : ℕ) → stored_yield_ok b n ≡ true → yield_ok (yield_at n (f64 b 24)) ≡ true
stored b zero h = refl
stored b (suc zero) h = h
stored b (suc (suc n)) h = absurd (false≢true h)

pub row_numbers : {b : List ℕ} → Held b → (i : ℕ) → i < u32 b 0 → RowNumbers (hold_row (hold_of (part b (hold_place i) 32)))
unfolding hold_slots hold_row hold_of hold_ok
row_numbers {b} h i l =
    let o = part b (hold_place i) 32 in
    let ok = slot_has hold_ok b (hold_place 0) (u32 b 0) i h.each l in
    record { price = not_nan (f64 o 16) (fact _ ok 4); n1b = stored o (u8 o 13) (fact _ ok 2) }

-- ---- its fields, one behind another

pub row_put : (o : HoldRow) {l m n k j z : List ℕ} {at p : ℕ} {x y : ℤ} → at + 32 ≤ length l → x ≡ o.local.0 → y ≡ o.pos → p ≡ yield_flag o.n1b
    → m ≡ patch l at (put_i64 x)
    → n ≡ patch m (at + 8) (put_i32 y)
    → k ≡ patch n (at + 12) (put32 p)
    → j ≡ patch k (at + 16) (put_f64 o.price)
    → z ≡ patch j (at + 24) (yield_bytes o.n1b)
    → Put l z at (hold_row_bytes o) (at + 32)
unfolding hold_row_bytes
row_put o {at = at} {p} {x} {y} h ex ey ep w1 w2 w3 w4 w5 =
    let p1 = put_first 8 w1 (length-le_bytes 8 _) (omega arith) in
    let p2 = put_next 4 (put_i32 y) p1 w2 (length-le_bytes 4 _) refl (omega arith) in
    let p3 = put_next 4 (put32 p) p2 w3 (length-le_bytes 4 _) (omega arith) (omega arith) in
    let p4 = put_next 8 (put_f64 o.price) p3 w4 (length-le_bytes 8 _) (omega arith) (omega arith) in
    let p5 = put_next 8 (yield_bytes o.n1b) p4 w5 (yield-length o.n1b) (omega arith) (omega arith) in
    let e : at + 24 + 8 ≡ at + 32 = omega arith in
    rw (← ex, ← ey, ← ep, ← e) p5
