-- Each row of a block is the one that the single call gives, and a block has at least one, so that who reads on behind it comes to the end.
-- Assumes nothing.
use Prim.Native.Nat.{ℕ, zero, suc, ◌+◌, ◌-◌, ◌≤◌}
use native.Mathlib.Omega.{arith}
use mathlib.Core.Bool.{Bool, true, false, cond}
use mathlib.Core.List.{List, [], ◌∷◌, map}
use Rattle.std.specs.Prelude.{Some, slice_get}
use mathlib.Core.Path.{◌≡◌, ◌∙◌, refl, sym, ap}
use borrow.Author.Tests.{le-leb, leb-true}
use lib.Dec.{leb}
use lib.IntN.{ℤ, pos, negsuc, ◌+ℤ◌}
use lib.ListN.{length, drop, length-append}
use Rattle.le.specs.Le.{le_bytes}
use Rattle.le.proofs.Laws.{length-le_bytes}
use Rattle.text.specs.Answer.{Got, given}
use Rattle.text.proofs.Answers.{got_from, must_got, got_same, given_got}
use Rattle.sheet.specs.Sheet.{Sheet}
use Rattle.position.specs.Rows.{Pair, pairs_of, hold_rows}
use Rattle.position.specs.declared.HoldRow.{HoldRow}
use Rattle.book.specs.Layout.{records_of, holds_of}
use Rattle.book.specs.Calls.{sized, checked}
use Rattle.book.proofs.Lengths.{yield-length}
use Rattle.row.specs.Calls.{row_buffer, row_at, pair_text, pair_do, hold_do}
use Rattle.row_blocks.specs.Blocks.{hold_row_bytes, hold_row_length, pair_row_bytes, pair_row_limit, fitting, rows_from, block_do, hold_block, pair_block, hold_block_do, pair_block_do}

-- ---- lists

at_drop : {X : Type 0} (xs : List X) (i k : ℕ) → slice_get (drop i xs) k ≡ slice_get xs (i + k)
at_drop xs zero k =
    let e : 0 + k ≡ k = omega arith in
    rw e
at_drop [] (suc i) k = refl
at_drop (x ∷ xs) (suc i) k =
    let e : suc i + k ≡ suc (i + k) = omega arith in
    rw e (at_drop xs i k)

at_map : {X Y : Type 0} (f : X → Y) (xs : List X) (k : ℕ) (y : Y) → slice_get (map f xs) k ≡ Some y → (x : X) × (slice_get xs k ≡ Some x) × (f x ≡ y)
at_map f [] k y e = absurd (let z : ◌≡◌ {A = ℕ} 0 1 = cc in omega arith)
at_map f (x ∷ xs) zero y e = (x, refl, cc)
at_map f (x ∷ xs) (suc k) y e = at_map f xs k y e

-- a row that fits is one of the rows, in its place
fitting-at : (room : ℕ) (rs : List (List ℕ)) (k : ℕ) (r : List ℕ) → slice_get (fitting room rs) k ≡ Some r → slice_get rs k ≡ Some r
unfolding fitting
fitting-at room [] k r e = e
fitting-at room (x ∷ rs) k r e = go (leb (length x) room) k (λ j h. fitting-at (room - length x) rs j r h) e
  where
    go : (t : Bool) (j : ℕ) → ((m : ℕ) → slice_get (fitting (room - length x) rs) m ≡ Some r → slice_get rs m ≡ Some r)
        → slice_get (cond t (x ∷ fitting (room - length x) rs) []) j ≡ Some r → slice_get (x ∷ rs) j ≡ Some r
    go true zero ih h = h
    go true (suc j) ih h = ih j h
    go false j ih h = absurd (let z : ◌≡◌ {A = ℕ} 0 1 = cc in omega arith)

fitting_some : (room : ℕ) (r : List ℕ) (rs : List (List ℕ)) → length r ≤ room → 1 ≤ length (fitting room (r ∷ rs))
unfolding fitting
fitting_some room r rs h = rw (le-leb (length r) room h) (omega arith)

-- ---- a block that was answered

pub record Answered (limit : ℕ) (rows : ℕ → Sheet → List (List ℕ)) (t b : List ℕ) (i : ℤ) (out : List ℕ) (block : List (List ℕ)) : Type 0 where
  pub bars : ℕ
  pub sheet : Sheet
  pub first : List ℕ
  pub size : sized t b ≡ Got bars
  pub room : leb limit (length out) ≡ true
  pub check : checked t bars b ≡ Got sheet
  pub there : row_at (rows bars sheet) i ≡ Some first
  pub is : block ≡ fitting (length out) (rows_from (rows bars sheet) i)

answered : (limit : ℕ) (rows : ℕ → Sheet → List (List ℕ)) (t b : List ℕ) (i : ℤ) (out : List ℕ) (block : List (List ℕ)) → block_do limit rows t b i out ≡ Got block
    → Answered limit rows t b i out block
unfolding block_do
answered limit rows t b i out block e =
    let size = got_from (sized t b) _ block e in
    let room = must_got 8 (leb limit (length out)) _ block size.2 in
    let check = got_from (checked t size.0 b) _ block room.1 in
    let row = row_at (rows size.0 check.0) i in
    let there = got_from (given 15 row) _ block check.2 in
    record {
      bars = size.0;
      sheet = check.0;
      first = there.0;
      size = size.1;
      room = room.0;
      check = check.1;
      there = given_got 15 row there.0 there.1;
      is = sym (got_same _ _ there.2);
    }

module _ {limit : ℕ} {rows : ℕ → Sheet → List (List ℕ)} {t b : List ℕ} {i : ℤ} {out : List ℕ} {block : List (List ℕ)} (a : Answered limit rows t b i out block) where
  abbrev all : List (List ℕ)
  all = rows a.bars a.sheet

  -- row number k of the block is row number i + k of the book
  row_is : (k : ℕ) (r : List ℕ) → slice_get block k ≡ Some r → row_at all (i +ℤ pos k) ≡ Some r
  row_is k r e = go i a.there (fitting-at (length out) (rows_from all i) k r (ap (λ (q : List (List ℕ)). slice_get q k) (sym a.is) ∙ e))
    where
      go : (z : ℤ) → row_at all z ≡ Some a.first → slice_get (rows_from all z) k ≡ Some r → row_at all (z +ℤ pos k) ≡ Some r
      go (pos n) f h = sym (at_drop all n k) ∙ h
      go (negsuc n) f h = absurd (let z : ◌≡◌ {A = ℕ} 0 1 = cc in omega arith)

  pub row_some : length a.first ≤ length out → 1 ≤ length block
  row_some h = rw a.is (go i a.there)
    where
      first-is : (xs : List (List ℕ)) → slice_get xs 0 ≡ Some a.first → 1 ≤ length (fitting (length out) xs)
      first-is [] e = absurd (let z : ◌≡◌ {A = ℕ} 0 1 = cc in omega arith)
      first-is (x ∷ xs) e =
          let f : x ≡ a.first = cc in
          fitting_some (length out) x xs (rw f h)

      go : (z : ℤ) → row_at all z ≡ Some a.first → 1 ≤ length (fitting (length out) (rows_from all z))
      go (pos n) e =
          let f : n + 0 ≡ n = omega arith in
          first-is (drop n all) (at_drop all n 0 ∙ rw f e)
      go (negsuc n) e = absurd (let z : ◌≡◌ {A = ℕ} 0 1 = cc in omega arith)

-- ---- holds

pub hold_long : (o : HoldRow) → length (hold_row_bytes o) ≡ hold_row_length
unfolding hold_row_bytes le_bytes
hold_long o = rw (yield-length o.n1b)

-- the row behind a row's bytes
pub row_of_lem : {X : Type 0} (f : X → List ℕ) (xs : List X) (z : ℤ) (r : List ℕ) → row_at (map f xs) z ≡ Some r → (x : X) × (row_at xs z ≡ Some x) × (f x ≡ r)
row_of_lem f xs (pos n) r e = at_map f xs n r e
row_of_lem f xs (negsuc n) r e = absurd (let z : ◌≡◌ {A = ℕ} 0 1 = cc in omega arith)

module _ (t b : List ℕ) (i : ℤ) (out : List ℕ) (block : List (List ℕ)) (e : hold_block_do t b i out ≡ Got block) where
  held : Answered hold_row_length (λ c s. hold_block b) t b i out block
  held = answered hold_row_length (λ c s. hold_block b) t b i out block e

  -- hold row number k of a block that starts with number i is row number i + k
  pub hold_single : (k : ℕ) (r : List ℕ) → slice_get block k ≡ Some r → (o : HoldRow) × (hold_do t b (i +ℤ pos k) ≡ Got o) × (hold_row_bytes o ≡ r)
  unfolding hold_do
  hold_single k r h =
      let row = row_of_lem hold_row_bytes (hold_rows (holds_of b)) (i +ℤ pos k) r (row_is held k r h) in
      (row.0, rw (held.size, held.check, row.1), row.2)

  pub hold_some : 1 ≤ length block
  hold_some =
      let row = row_of_lem hold_row_bytes (hold_rows (holds_of b)) i held.first held.there in
      row_some held (omega (arith, leb-true hold_row_length (length out) held.room, ap length row.2, hold_long row.0))

-- ---- pairs

-- 96 bytes and the texts
pub pair_long : (p : Pair) → length (pair_row_bytes p) ≡ 96 + length (pair_text p)
unfolding pair_row_bytes
pair_long p = simp length-append (simp length-le_bytes (omega (arith, yield-length p.yield)))

module _ (t b : List ℕ) (i : ℤ) (out : List ℕ) (block : List (List ℕ)) (e : pair_block_do t b i out ≡ Got block) where
  pub traded : Answered pair_row_limit (λ c s. pair_block s c b) t b i out block
  traded = answered pair_row_limit (λ c s. pair_block s c b) t b i out block e

  -- pair row number k of a block that starts with number i is row number i + k, with its texts behind its numbers
  pub pair_single : (buffer : List ℕ) → row_buffer ≤ length buffer → (k : ℕ) (r : List ℕ) → slice_get block k ≡ Some r
      → (p : Pair) × (pair_do t b (i +ℤ pos k) buffer ≡ Got p) × (pair_row_bytes p ≡ r)
  unfolding pair_do
  pair_single buffer l k r h =
      let row = row_of_lem pair_row_bytes (pairs_of traded.sheet (records_of traded.bars b)) (i +ℤ pos k) r (row_is traded k r h) in
      (row.0, rw (traded.size, le-leb row_buffer (length buffer) l, traded.check, row.1), row.2)
