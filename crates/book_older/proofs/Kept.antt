-- A book from before lots passes the checks of today, and its lists are those that it had. Assumes nothing.
use Prim.Native.Nat.{ℕ, ◌-◌, ◌≤◌}
use mathlib.Core.Bool.{Bool, true, false, cond, ◌&&◌, and-eq-true_iff}
use mathlib.Core.List.{List}
use mathlib.Core.Path.{◌≡◌}
use lib.Dec.{eqb}
use Rattle.le.specs.Le.{part}
use Rattle.le.specs.Field.{u32}
use Rattle.text.specs.Text.{same}
use Rattle.text.proofs.Conditions.{fact, none_left, ◌also◌, sure}
use Rattle.text.proofs.Every.{every_passes, every-same}
use Rattle.position.specs.State.{fresh_head}
use Rattle.book.specs.Layout.{head_bytes, hold_place, hold_slots, record_slots, holds_of, records_of}
use Rattle.book.specs.Check.{counts_ok, hold_ok, last_ok, used_ok, header_ok, record_ok, full_ok}
use Rattle.book_older.specs.Older.{hold_was, record_was, last_was, used_was, header_was, full_was, Kept}
use Rattle.book_older.proofs.Entries.{hold_passes, hold_same, record_passes, record_same}

-- ---- the header check

last_passes : (b o : List ℕ) → last_was b o ≡ true → last_ok b o ≡ true
unfolding last_was last_ok
last_passes b o h = sure (hold_passes o (fact _ h 0) also fact _ h 1 also fact _ h 2 also fact _ h 3 also none_left)

used_passes : (b : List ℕ) → used_was b ≡ true → used_ok b ≡ true
unfolding used_was used_ok
used_passes b h =
    sure
    (fact _ h 0
    also fact _ h 1
    also fact _ h 2
    also fact _ h 3
    also fact _ h 4
    also fact _ h 5
    also fact _ h 6
    also last_passes b (part b (hold_place (u32 b 0 - 1)) 32) (fact _ h 7)
    also none_left)

-- a feed asks for no more
pub header_passes : (c : ℕ) (b : List ℕ) → header_was c b ≡ true → header_ok c b ≡ true
unfolding header_was header_ok
header_passes c b h = go (eqb (u32 b 0) 0) ((and-eq-true_iff (counts_ok c b) _).0 h)
  where
    fresh : Bool
    fresh = same (part b 0 96) (head_bytes c 0 0 fresh_head)

    go : (t : Bool) → (counts_ok c b ≡ true) × (cond t fresh (used_was b) ≡ true) → (counts_ok c b && cond t fresh (used_ok b)) ≡ true
    go true k = rw k.0 k.1
    go false k = rw k.0 (used_passes b k.1)

-- ---- the book

pub older_kept : (n c : ℕ) (b : List ℕ) → n ≤ 32 → full_was n c b ≡ true → Kept n c b
unfolding full_was full_ok holds_of records_of
older_kept n c b few h =
    let header = header_passes c b (fact _ h 0) in
    record {
      header = header;
      full =
          sure
          (header
          also fact _ h 1
          also every_passes hold_was hold_ok hold_passes (hold_slots b) (fact _ h 2)
          also fact _ h 3
          also every_passes (record_was n) (record_ok n) (record_passes n few) (record_slots c b) (fact _ h 4)
          also fact _ h 5
          also none_left);
      holds = every-same hold_was _ _ hold_same (hold_slots b) (fact _ h 2);
      records = every-same (record_was n) _ _ (record_same n few) (record_slots c b) (fact _ h 4);
    }
