-- `ordered` by places: what each order and each rank is, and that this is enough. Assumes nothing.
use Prim.Native.Nat.{ℕ, suc, ◌+◌, ◌<◌}
use native.Mathlib.Omega.{arith}
use mathlib.Core.Path.{◌≡◌, refl}
use mathlib.Core.Bool.{true}
use mathlib.Core.List.{List, [], ◌∷◌}
use lib.Dec.{ltb}
use borrow.Author.Tests.{lt-ltb, eq-eqb, ltb-true}
use lib.ListN.{length, get_or}
use Rattle.text.proofs.Conditions.{◌also◌, none_left, sure, fact}
use Rattle.text.proofs.Every.{every-below, every_of}
use Rattle.table_words.specs.Words.{less, ascending, ranked, ordered}
use Rattle.table_words_order.proofs.Apart.{RankedAt, ranked-at, ascending_pair}

pub record Sorted (texts : List (List ℕ)) (os rs : List ℕ) : Type 0 where
  pub below : (p : ℕ) → p < length os → get_or os p 0 < length texts
  pub rank : (i : ℕ) → i < length rs → RankedAt os i (get_or rs i 0)
  pub rise : (p q : ℕ) → p < q → q < length os → less (get_or texts (get_or os p 0) []) (get_or texts (get_or os q 0) []) ≡ true

-- ---- from `ordered`, and to it

pub sorted_of : (texts : List (List ℕ)) (os rs : List ℕ) → ordered texts os rs ≡ true → Sorted texts os rs
unfolding ordered
sorted_of texts os rs o = record {
  below = λ p h. ltb-true _ _ (every-below (λ k. ltb k (length texts)) 0 os (fact _ o 0) p h);
  rank = ranked-at os rs (fact _ o 1);
  rise = ascending_pair texts os (fact _ o 2);
}

ranked_of : (os : List ℕ) (i : ℕ) (rs : List ℕ) → ((j : ℕ) → j < length rs → RankedAt os (i + j) (get_or rs j 0)) → ranked os i rs ≡ true
unfolding ranked
ranked_of os i [] h = refl
ranked_of os i (r ∷ rs) h =
    let a = h 0 (omega arith) in
    let z : get_or os r 0 ≡ i = omega (arith, a.is) in
    rw (lt-ltb r (length os) a.within, eq-eqb (get_or os r 0) i z) (ranked_of os (i + 1) rs (λ j k. let e : i + 1 + j ≡ i + suc j = omega arith in rw e (h (suc j) (omega arith))))

ascending_of : (texts : List (List ℕ)) (os : List ℕ) → ((p q : ℕ) → p < q → q < length os → less (get_or texts (get_or os p 0) []) (get_or texts (get_or os q 0) []) ≡ true) → ascending texts os ≡ true
unfolding ascending
ascending_of texts [] h = refl
ascending_of texts (a ∷ []) h = refl
ascending_of texts (a ∷ b ∷ os) h =
    rw (h 0 1 (omega arith) (omega arith)) (ascending_of texts (b ∷ os) (λ p q k l. h (suc p) (suc q) (omega arith) (omega arith)))

pub ordered_of : {texts : List (List ℕ)} {os rs : List ℕ} → Sorted texts os rs → ordered texts os rs ≡ true
unfolding ordered
ordered_of {texts} {os} {rs} s =
    sure
    (every_of (λ k. ltb k (length texts)) 0 os (λ p h. lt-ltb _ _ (s.below p h))
    also ranked_of os 0 rs (λ j h. let e : 0 + j ≡ j = omega arith in rw e (s.rank j h))
    also ascending_of texts os s.rise
    also none_left)
