-- The search of a pair: records are passed, and those that open are counted. Assumes nothing.
use Prim.Native.Nat.{ℕ, zero, suc, ◌+◌, ◌-◌, ◌*◌, ◌<◌, ◌≤◌}
use native.Mathlib.Omega.{arith}
use mathlib.Core.Path.{◌≡◌, ◌∙◌, refl, sym, ap}
use mathlib.Core.Bool.{true, false}
use mathlib.Core.List.{List, [], ◌∷◌}
use Rattle.std.specs.Prelude.{None, Some, slice_get}
use lib.ListN.{length, get_or, drop, length-map, length-drop, drop_of_length-le, get_or-map}
use lib.Seq.{drop-cons, get_or-take, get_or-drop}
use Rattle.le.specs.Le.{part}
use Rattle.le.specs.Field.{u8, u32}
use Rattle.list.proofs.Elements.{next-at}
use Rattle.sheet.specs.Sheet.{Sheet}
use Rattle.position.specs.Rows.{pair_of, pairs_of, opens}
use Rattle.position.specs.declared.Record.{Record}
use Rattle.book.specs.Layout.{record_place, record_of, record_slots, records_of}
use Rattle.book.proofs.Slots.{slots_length, slots_at}
use Rattle.row_pairs.specs.Found.{record_at, pair_from, FoundAs}

-- ---- the records of a book

module _ (c : ℕ) (b : List ℕ) where
  records-length : length (records_of c b) ≡ u32 b 4
  unfolding records_of record_slots
  records-length = length-map (record_slots c b) record_of ∙ slots_length b (record_place c 0) (u32 b 4)

  record_is : (j : ℕ) → j < u32 b 4 → get_or (records_of c b) j (record_of []) ≡ record_at c b j
  unfolding records_of record_slots
  record_is j h =
      let e : record_place c 0 + 32 * j ≡ record_place c j = omega arith in
      get_or-map record_of (record_slots c b) j []
      ∙ ap record_of (slots_at b (record_place c 0) (u32 b 4) j h ∙ ap (λ (k : ℕ). part b k 32) e)

  -- what a walk over them meets next
  record_next : (j : ℕ) → j < u32 b 4 → drop j (records_of c b) ≡ record_at c b j ∷ drop (j + 1) (records_of c b)
  record_next j h =
      let e : suc j ≡ j + 1 = omega arith in
      drop-cons (records_of c b) j (record_of []) (omega (arith, records-length))
      ∙ ap (λ r. r ∷ drop (suc j) (records_of c b)) (record_is j h)
      ∙ ap (λ (k : ℕ). record_at c b j ∷ drop k (records_of c b)) e

  -- the operate of a record, by its byte
  pub operate-at : (j : ℕ) → (record_at c b j).operate ≡ u8 b (record_place c j + 24)
  unfolding record_of part
  operate-at j =
      let h : 24 < 32 = omega arith in
      get_or-take 32 (drop (record_place c j) b) 24 0 h ∙ get_or-drop (record_place c j) b 24 0

-- ---- pairs of a list of records

module _ (s : Sheet) where
  pairs_first : (a z : Record) (rs : List Record) → opens a ≡ true → pairs_of s (a ∷ z ∷ rs) ≡ pair_of s a z ∷ pairs_of s (z ∷ rs)
  unfolding pairs_of
  pairs_first a z rs h = rw h

  pairs_past : (a z : Record) (rs : List Record) → opens a ≡ false → pairs_of s (a ∷ z ∷ rs) ≡ pairs_of s (z ∷ rs)
  unfolding pairs_of
  pairs_past a z rs h = rw h

  pairs_none : (rs : List Record) → length rs ≤ 1 → pairs_of s rs ≡ []
  unfolding pairs_of
  pairs_none [] h = refl
  pairs_none (a ∷ []) h = refl
  pairs_none (a ∷ z ∷ rs) h = absurd (omega arith)

-- nothing is left of a list from its end on
none_left : {X : Type 0} (xs : List X) (i : ℕ) → drop i xs ≡ [] → slice_get xs i ≡ None
none_left [] i e = refl
none_left (x ∷ xs) zero e = cc
none_left (x ∷ xs) (suc i) e = none_left xs i e

-- ---- the loop: before record number j, the pairs from number i on are those from number `left` on of what is left

pub record Seeking (c : ℕ) (b : List ℕ) (from i left j : ℕ) : Type 0 where
  pub begun : from ≤ j
  pub le : j ≤ u32 b 4
  pub still : (s : Sheet) → drop i (pairs_of s (drop from (records_of c b))) ≡ drop left (pairs_of s (drop j (records_of c b)))

-- the pairs of the records from number j on
module _ (c : ℕ) (b : List ℕ) (j : ℕ) where
  pub pairs-last : u32 b 4 ≤ j + 1 → (s : Sheet) → pairs_of s (drop j (records_of c b)) ≡ []
  pairs-last h s = pairs_none s (drop j (records_of c b)) (omega (arith, length-drop j (records_of c b), records-length c b))

  module _ (more : j + 1 < u32 b 4) where
    rest : drop (j + 1) (records_of c b) ≡ record_at c b (j + 1) ∷ drop (j + 1 + 1) (records_of c b)
    rest = record_next c b (j + 1) more

    both : drop j (records_of c b) ≡ record_at c b j ∷ record_at c b (j + 1) ∷ drop (j + 1 + 1) (records_of c b)
    both = record_next c b j (omega arith) ∙ ap (λ rs. record_at c b j ∷ rs) rest

    pub pairs-opened : true ≡ opens (record_at c b j) → (s : Sheet) → pairs_of s (drop j (records_of c b)) ≡ pair_from s c b j ∷ pairs_of s (drop (j + 1) (records_of c b))
    pairs-opened e s =
        ap (pairs_of s) both ∙ pairs_first s (record_at c b j) (record_at c b (j + 1)) (drop (j + 1 + 1) (records_of c b)) (sym e)
        ∙ ap (λ rs. pair_from s c b j ∷ pairs_of s rs) (sym rest)

    pub pairs-passed : false ≡ opens (record_at c b j) → (s : Sheet) → pairs_of s (drop j (records_of c b)) ≡ pairs_of s (drop (j + 1) (records_of c b))
    pairs-passed e s =
        ap (pairs_of s) both ∙ pairs_past s (record_at c b j) (record_at c b (j + 1)) (drop (j + 1 + 1) (records_of c b)) (sym e)
        ∙ ap (pairs_of s) (sym rest)

module _ {c : ℕ} {b : List ℕ} {from i left j : ℕ} (r : Seeking c b from i left j) where
  pub seeking_last : u32 b 4 ≤ j + 1 → FoundAs c b from i None
  seeking_last h = record {
    is = λ s. r.still s ∙ ap (drop left) (pairs-last c b j h s) ∙ drop_of_length-le [] {i = left} (omega arith);
    ok = tt;
  }

  module _ (more : j + 1 < u32 b 4) where
    pub seeking_hit : true ≡ opens (record_at c b j) → left ≡ 0 → FoundAs c b from i (Some j)
    seeking_hit e z = record {
      is = λ s. r.still s ∙ ap (λ (k : ℕ). drop k (pairs_of s (drop j (records_of c b)))) z ∙ pairs-opened c b j more e s;
      ok = (r.begun, more, sym e);
    }

    -- one record further
    next : {k : ℕ} → ((s : Sheet) → drop left (pairs_of s (drop j (records_of c b))) ≡ drop k (pairs_of s (drop (j + 1) (records_of c b)))) → Seeking c b from i k (j + 1)
    next {k} e = record { begun = omega (arith, r.begun); le = omega arith; still = λ s. r.still s ∙ e s }

    pub seeking_opened : true ≡ opens (record_at c b j) → (left ≡ 0 → ⊥) → Seeking c b from i (left - 1) (j + 1)
    seeking_opened e z =
        let n : left ≡ suc (left - 1) = omega (arith, z) in
        next (λ s. ap (λ (k : ℕ). drop k (pairs_of s (drop j (records_of c b)))) n ∙ ap (drop (suc (left - 1))) (pairs-opened c b j more e s))

    pub seeking_passed : false ≡ opens (record_at c b j) → Seeking c b from i left (j + 1)
    seeking_passed e = next (λ s. ap (drop left) (pairs-passed c b j more e s))

-- ---- the pair with an index

module _ {c : ℕ} {b : List ℕ} {i : ℕ} (s : Sheet) where
  pub found_none : FoundAs c b 0 i None → slice_get (pairs_of s (records_of c b)) i ≡ None
  found_none f = none_left (pairs_of s (records_of c b)) i (f.is s)

  pub found_some : {j : ℕ} → FoundAs c b 0 i (Some j) → slice_get (pairs_of s (records_of c b)) i ≡ Some (pair_from s c b j)
  found_some f = next-at (pairs_of s (records_of c b)) i (f.is s)
