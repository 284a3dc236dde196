-- Words whose orders and ranks are right are distinct. Assumes nothing.
use Prim.Native.Nat.{ℕ, zero, suc, ◌+◌, ◌<◌}
use native.Mathlib.Omega.{arith}
use native.Mathlib.Decide.{dec_lt}
use mathlib.Core.Path.{◌≡◌, refl, sym, ap, ◌∙◌}
use mathlib.Core.Bool.{Bool, true, false, false≢true, cond, ◌&&◌}
use mathlib.Core.List.{List, [], ◌∷◌}
use lib.Dec.{ltb, eqb}
use borrow.Author.Tests.{ltb-true, eqb-true}
use lib.ListN.{length, get_or}
use Rattle.text.specs.Text.{same}
use Rattle.text.specs.Conditions.{any_of}
use Rattle.text.proofs.Conditions.{fact}
use Rattle.text.proofs.Same.{same_eq}
use Rattle.table_words.specs.Words.{distinct, less, ascending, ranked, ordered}
use Rattle.table_words_order.proofs.Total.{less_irrefl, less_trans}

and_left : (a b : Bool) → (a && b) ≡ true → a ≡ true
and_left true b e = refl
and_left false b e = e

and_right : (a b : Bool) → (a && b) ≡ true → b ≡ true
and_right true b e = e
and_right false b e = absurd (false≢true e)

-- ---- rising texts

module _ (texts : List (List ℕ)) where
  ascending-rest : (a : ℕ) (os : List ℕ) → ascending texts (a ∷ os) ≡ true → ascending texts os ≡ true
  unfolding ascending
  ascending-rest a [] r = refl
  ascending-rest a (b ∷ os) r = and_right (less (get_or texts a []) (get_or texts b [])) (ascending texts (b ∷ os)) r

  ascending-from : (a : ℕ) (os : List ℕ) → ascending texts (a ∷ os) ≡ true → (q : ℕ) → q < length os → less (get_or texts a []) (get_or texts (get_or os q 0) []) ≡ true
  unfolding ascending
  ascending-from a [] r q h = absurd (omega arith)
  ascending-from a (b ∷ os) r zero h = and_left (less (get_or texts a []) (get_or texts b [])) (ascending texts (b ∷ os)) r
  ascending-from a (b ∷ os) r (suc q) h =
      less_trans (get_or texts a []) (get_or texts b []) (get_or texts (get_or os q 0) [])
      (and_left (less (get_or texts a []) (get_or texts b [])) (ascending texts (b ∷ os)) r)
      (ascending-from b os (and_right (less (get_or texts a []) (get_or texts b [])) (ascending texts (b ∷ os)) r) q (omega arith))

  pub ascending_pair : (os : List ℕ) → ascending texts os ≡ true → (p q : ℕ) → p < q → q < length os → less (get_or texts (get_or os p 0) []) (get_or texts (get_or os q 0) []) ≡ true
  ascending_pair [] r p q h k = absurd (omega arith)
  ascending_pair (a ∷ os) r p zero h k = absurd (omega arith)
  ascending_pair (a ∷ os) r zero (suc q) h k = ascending-from a os r q (omega arith)
  ascending_pair (a ∷ os) r (suc p) (suc q) h k = ascending_pair os (ascending-rest a os r) p q (omega arith) (omega arith)

-- ---- each word's rank is where its number stands

pub record RankedAt (os : List ℕ) (i r : ℕ) : Type 0 where
  pub within : r < length os
  pub is : get_or os r 0 ≡ i

ranked-one : (os : List ℕ) (i r : ℕ) (rest : Bool) → cond (ltb r (length os) && eqb (get_or os r 0) i) rest false ≡ true → RankedAt os i r × (rest ≡ true)
ranked-one os i r rest e = go (ltb r (length os)) (eqb (get_or os r 0) i) refl refl e
  where
    go : (x y : Bool) → ltb r (length os) ≡ x → eqb (get_or os r 0) i ≡ y → cond (x && y) rest false ≡ true → RankedAt os i r × (rest ≡ true)
    go true true g h k = (record { within = ltb-true _ _ g; is = eqb-true _ _ h }, k)
    go true false g h k = absurd (false≢true k)
    go false y g h k = absurd (false≢true k)

ranked-from : (os : List ℕ) (i : ℕ) (rs : List ℕ) → ranked os i rs ≡ true → (j : ℕ) → j < length rs → RankedAt os (i + j) (get_or rs j 0)
unfolding ranked
ranked-from os i [] e j h = absurd (omega arith)
ranked-from os i (r ∷ rs) e zero h =
    let z : i + 0 ≡ i = omega arith in
    rw z (ranked-one os i r (ranked os (i + 1) rs) e).0
ranked-from os i (r ∷ rs) e (suc j) h =
    let z : i + suc j ≡ i + 1 + j = omega arith in
    rw z (ranked-from os (i + 1) rs (ranked-one os i r (ranked os (i + 1) rs) e).1 j (omega arith))

pub ranked-at : (os rs : List ℕ) → ranked os 0 rs ≡ true → (j : ℕ) → j < length rs → RankedAt os j (get_or rs j 0)
ranked-at os rs e j h =
    let z : 0 + j ≡ j = omega arith in
    rw z at (ranked-from os 0 rs e j h)

-- ---- distinct words

any_none : (f : List ℕ → Bool) (ds : List (List ℕ)) → ((i : ℕ) → i < length ds → f (get_or ds i []) ≡ false) → any_of f ds ≡ false
unfolding any_of
any_none f [] h = refl
any_none f (d ∷ ds) h = rw (h 0 (omega arith)) (any_none f ds (λ i k. h (suc i) (omega arith)))

-- texts that are the same only at the same place
pub distinct_sure : (ds : List (List ℕ)) → ((i j : ℕ) → i < length ds → j < length ds → get_or ds i [] ≡ get_or ds j [] → i ≡ j) → distinct ds ≡ true
unfolding distinct
distinct_sure [] h = refl
distinct_sure (d ∷ ds) h =
    rw (any_none (same d) ds other)
    (distinct_sure ds (λ i j p q e. let k : suc i ≡ suc j = h (suc i) (suc j) (omega arith) (omega arith) e in omega arith))
  where
    other : (i : ℕ) → i < length ds → same d (get_or ds i []) ≡ false
    other i k = go (same d (get_or ds i [])) refl
      where
        go : (t : Bool) → same d (get_or ds i []) ≡ t → t ≡ false
        go true e = absurd (let z : 0 ≡ suc i = h 0 (suc i) (omega arith) (omega arith) (same_eq d (get_or ds i []) e) in omega arith)
        go false e = refl

-- words whose orders and ranks are right are the same only at the same place
pub apart_at : (texts : List (List ℕ)) (os rs : List ℕ) → ordered texts os rs ≡ true → length rs ≡ length texts
    → (i j : ℕ) → i < length texts → j < length texts → get_or texts i [] ≡ get_or texts j [] → i ≡ j
unfolding ordered
apart_at texts os rs o n i j hi hj e =
    places (ranked-at os rs (fact _ o 1) i (omega arith)) (ranked-at os rs (fact _ o 1) j (omega arith))
  where
    never : (p q : ℕ) → p < q → q < length os → get_or texts (get_or os p 0) [] ≡ get_or texts (get_or os q 0) [] → ⊥
    never p q h k e = false≢true (sym (less_irrefl (get_or texts (get_or os q 0) [])) ∙ (rw e at (ascending_pair texts os (fact _ o 2) p q h k)))

    places : {p q : ℕ} → RankedAt os i p → RankedAt os j q → i ≡ j
    places {p} {q} a b =
        let t : get_or texts (get_or os p 0) [] ≡ get_or texts (get_or os q 0) [] = rw (a.is, b.is) e in
        elim (dec_lt p q) [
          | yes l ↦ absurd (never p q l b.within t)
          | no l ↦ elim (dec_lt q p) [
            | yes m ↦ absurd (never q p m a.within (sym t))
            | no m ↦ let z : p ≡ q = omega arith in sym a.is ∙ ap (λ k. get_or os k 0) z ∙ b.is
          ]
        ]

-- "keys and values are distinct" where each has its rank among orders by rising text
pub apart : (texts : List (List ℕ)) (os rs : List ℕ) → ordered texts os rs ≡ true → length rs ≡ length texts → distinct texts ≡ true
apart texts os rs o n = distinct_sure texts (apart_at texts os rs o n)
