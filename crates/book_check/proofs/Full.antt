-- The full check: its conditions put together, where the slots are, and the answers. Assumes nothing.
use Rattle.book.specs.declared.OpenError.TheVariants.{NotTable, NotBook}
use Rattle.std.specs.Prelude.{Ok, Err}
use Prim.Native.Nat.{ℕ, ◌+◌, ◌*◌, ◌≤◌}
use native.Mathlib.Omega.{arith}
use mathlib.Core.Bool.{Bool, true, false, ◌||◌}
use mathlib.Core.List.{List, [], ◌∷◌}
use mathlib.Core.Path.{◌≡◌, refl, sym, ap, ◌∙◌}
use lib.Dec.{eqb, ltb}
use lib.ListN.{length}
use Rattle.le.specs.Field.{u8, u32}
use Rattle.text.specs.Answer.{Got, ◌>>=◌, must}
use Rattle.text.specs.Conditions.{all_of}
use Rattle.table.specs.Layout.{head_length, counts_in, parts_in}
use Rattle.table.specs.Table.{is_table, sheet_of, read_table}
use Rattle.table.specs.declared.Counts.{Counts}
use Rattle.table.proofs.Facts.{table_facts, events-count}
use Rattle.table_check.proofs.Parts.{head_long}
use Rattle.book_header.specs.Size.{SizeOk}
use Rattle.book.specs.Layout.{record_place, slots, hold_slots, record_slots}
use Rattle.book.specs.Check.{hold_ok, record_ok, header_ok, full_ok}
use Rattle.book.specs.Calls.{checked}
use Rattle.book_header_check.proofs.Passed.{passed as header-passed}
use Rattle.book_check.specs.Read.{CheckedAs}
use Rattle.book_check.specs.Walk.{orderly}

-- ---- where the slots are

module _ {b : List ℕ} {c : ℕ} (size : SizeOk b c) (ok : header_ok c b ≡ true) where
  pub holds-room : {hs : ℕ} → hs ≡ u32 b 0 → 96 + 32 * hs ≤ length b
  holds-room e = omega (arith, header-passed c b ok, size.long)

  pub records-room : {rs : ℕ} → rs ≡ u32 b 4 → 96 + 32 * c + 32 * rs ≤ length b
  records-room e = omega (arith, header-passed c b ok, size.long)

-- ---- `full_ok`

-- two conditions in one, twice
paired : (u v w x y z : Bool) → all_of (u ∷ v ∷ all_of (w ∷ x ∷ []) ∷ all_of (y ∷ z ∷ []) ∷ []) ≡ all_of (u ∷ v ∷ w ∷ x ∷ y ∷ z ∷ [])
unfolding all_of
paired true true true true true true = refl
paired true true true true true false = refl
paired true true true true false z = refl
paired true true true false y z = refl
paired true true false x y z = refl
paired true false w x y z = refl
paired false v w x y z = refl

module _ (n c : ℕ) (b : List ℕ) {hs rs : ℕ} (h : hs ≡ u32 b 0) (r : rs ≡ u32 b 4) where
  -- its conditions, those on a list of slots in one
  abbrev pub asked : List Bool
  asked =
      header_ok c b ∷ (eqb (u8 b 28) 0 || ltb (u32 b 84) n) ∷ orderly hold_ok (slots b 96 hs) ∷ orderly (record_ok n) (slots b (96 + 32 * c) rs) ∷ []

  pub asked_is : all_of asked ≡ full_ok n c b
  unfolding full_ok hold_slots record_slots orderly
  asked_is =
      let e : record_place c 0 ≡ 96 + 32 * c = omega arith in
      rw (h, r, e) (paired _ _ _ _ _ _)

-- ---- `check_book`

pub not_table : (t : List ℕ) (c : ℕ) (b : List ℕ) → is_table t ≡ false → CheckedAs t c b (Err NotTable)
unfolding checked read_table
not_table t c b e = record { is = rw e refl; ok = tt }

module _ (t : List ℕ) (table : is_table t ≡ true) where
  pub head_in : head_length ≤ length t
  head_in = head_long t (table_facts t table).0

  module _ (c : ℕ) (b : List ℕ) {k : Counts} (count : k ≡ counts_in t) {x : Bool} (told : x ≡ full_ok k.events c b) where
    told_is : x ≡ full_ok (counts_in t).events c b
    told_is = told ∙ ap (λ (n : Counts). full_ok n.events c b) count

    checked-is : checked t c b ≡ (must 10 x >>= λ _. Got (sheet_of (parts_in t)))
    unfolding checked read_table
    checked-is = rw (table, events-count t, ← told_is)

    pub not-book : x ≡ false → CheckedAs t c b (Err NotBook)
    not-book e = record { is = sym (checked-is ∙ rw e); ok = tt }

    pub passed : x ≡ true → CheckedAs t c b (Ok tt)
    passed e = record { is = sym (checked-is ∙ rw e); ok = (table, sym told_is ∙ e) }
