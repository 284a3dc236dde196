-- The order of texts is total, and what `compare` answers. Assumes nothing.
use mathlib.Core.Path.{◌≡◌, ◌∙◌, refl, sym, ap₂}
use mathlib.Core.Logic.{◌≢◌}
use mathlib.Core.Bool.{Bool, true, false, false≢true, cond}
use mathlib.Core.List.{List, [], ◌∷◌}
use Prim.Native.Nat.{ℕ, ◌<◌}
use native.Mathlib.Omega.{arith}
use borrow.Author.Tests.{eq-eqb, ne_eqb, lt-ltb, ltb-true, ltb-false, eqb-true, eqb-false}
use lib.Dec.{eqb, ltb}
use Rattle.text.specs.Text.{same}
use Rattle.text.proofs.Same.{same_refl, same_eq}
use Rattle.table_words.specs.Words.{less}
use Rattle.table_words_order.specs.Read.{order_of}
use Rattle.std.specs.declared.cmp.Ordering.TheVariants.{Less, Equal, Greater}

-- ---- a total order

pub less_irrefl : (a : List ℕ) → less a a ≡ false
unfolding less
less_irrefl [] = refl
less_irrefl (x ∷ a) = rw (eq-eqb x x refl) (less_irrefl a)

pub less_trans : (a b c : List ℕ) → less a b ≡ true → less b c ≡ true → less a c ≡ true
unfolding less
less_trans [] [] c p q = absurd (false≢true p)
less_trans [] (y ∷ b) [] p q = absurd (false≢true q)
less_trans [] (y ∷ b) (z ∷ c) p q = refl
less_trans (x ∷ a) [] c p q = absurd (false≢true p)
less_trans (x ∷ a) (y ∷ b) [] p q = absurd (false≢true q)
less_trans (x ∷ a) (y ∷ b) (z ∷ c) p q = go (eqb x y) (eqb y z) refl refl (less_trans a b c) p q
  where
    lower : x < z → cond (eqb x z) (less a c) (ltb x z) ≡ true
    lower h = rw (ne_eqb x z (omega arith), lt-ltb x z h)

    go : (s t : Bool) → eqb x y ≡ s → eqb y z ≡ t → (less a b ≡ true → less b c ≡ true → less a c ≡ true)
        → cond s (less a b) (ltb x y) ≡ true → cond t (less b c) (ltb y z) ≡ true → cond (eqb x z) (less a c) (ltb x z) ≡ true
    go true true e f ih g h = rw (eq-eqb x z (eqb-true x y e ∙ eqb-true y z f)) (ih g h)
    go true false e f ih g h = lower (omega (arith, eqb-true x y e, ltb-true y z h))
    go false true e f ih g h = lower (omega (arith, ltb-true x y g, eqb-true y z f))
    go false false e f ih g h = lower (omega (arith, ltb-true x y g, ltb-true y z h))

pub less_total : (a b : List ℕ) → less a b ≡ false → a ≢ b → less b a ≡ true
unfolding less
less_total [] [] e h = absurd (h refl)
less_total [] (y ∷ b) e h = absurd (false≢true (sym e))
less_total (x ∷ a) [] e h = refl
less_total (x ∷ a) (y ∷ b) e h = go (eqb x y) refl (less_total a b) e
  where
    go : (t : Bool) → eqb x y ≡ t → (less a b ≡ false → a ≢ b → less b a ≡ true) → cond t (less a b) (ltb x y) ≡ false
        → cond (eqb y x) (less b a) (ltb y x) ≡ true
    go true q ih k =
        let s = eqb-true x y q in
        rw (eq-eqb y x (sym s)) (ih k (λ r. h (ap₂ (λ (u : ℕ) (v : List ℕ). u ∷ v) s r)))
    go false q ih k =
        let n : x ≢ y = eqb-false x y q in
        let m = ltb-false x y k in
        rw (ne_eqb y x (omega arith), lt-ltb y x (omega arith))

-- ---- what `compare` answers

pub order-less : (a b : List ℕ) → Less ≡ order_of a b → less a b ≡ true
unfolding order_of
order-less a b e = go (less a b) (same a b) e
  where
    go : (l s : Bool) → Less ≡ cond l Less (cond s Equal Greater) → l ≡ true
    go true s k = refl
    go false true k = absurd (false≢true (cc))
    go false false k = absurd (false≢true (cc))

pub order_same : (a b : List ℕ) → Equal ≡ order_of a b → a ≡ b
unfolding order_of
order_same a b e = go (less a b) (same a b) refl e
  where
    go : (l s : Bool) → same a b ≡ s → Equal ≡ cond l Less (cond s Equal Greater) → a ≡ b
    go true s h k = absurd (false≢true (cc))
    go false true h k = same_eq a b h
    go false false h k = absurd (false≢true (cc))

pub order-more : (a b : List ℕ) → Greater ≡ order_of a b → less b a ≡ true
unfolding order_of
order-more a b e = go (less a b) (same a b) refl refl e
  where
    go : (l s : Bool) → less a b ≡ l → same a b ≡ s → Greater ≡ cond l Less (cond s Equal Greater) → less b a ≡ true
    go true s g h k = absurd (false≢true (cc))
    go false true g h k = absurd (false≢true (cc))
    go false false g h k = less_total a b g (λ q. false≢true (sym h ∙ rw q (same_refl b)))
