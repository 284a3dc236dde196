-- Laws of `same`, and the invariant of `part_eq`. Assumes nothing.
use mathlib.Core.Path.{◌≡◌, refl, ap}
use mathlib.Core.Bool.{Bool, true, false, ◌&&◌}
use mathlib.Core.Logic.{◌≢◌}
use mathlib.Core.List.{List, [], ◌∷◌}
use Prim.Native.Nat.{ℕ}
use native.Mathlib.Omega.{arith}
use borrow.Author.Tests.{eq-eqb, eqb-true}
use Rattle.std.specs.Cmp.Lexicographic.{pointwise}
use lib.Dec.{eqb}
use Rattle.text.specs.Text.{same}

pub same_refl : (s : List ℕ) → same s s ≡ true
unfolding same
same_refl [] = refl
same_refl (x ∷ s) = rw (eq-eqb x x refl) (same_refl s)

pub same_eq : (s t : List ℕ) → same s t ≡ true → s ≡ t
unfolding same
same_eq [] [] e = refl
same_eq [] (y ∷ t) e = absurd (let z : ◌≡◌ {A = ℕ} 0 1 = cc in omega arith)
same_eq (x ∷ s) [] e = absurd (let z : ◌≡◌ {A = ℕ} 0 1 = cc in omega arith)
same_eq (x ∷ s) (y ∷ t) e = go (eqb x y) refl (same_eq s t) e
  where
    go : (b : Bool) → eqb x y ≡ b → (same s t ≡ true → s ≡ t) → (b && same s t) ≡ true → x ∷ s ≡ y ∷ t
    go true h ih k = cc (eqb-true x y h, ih k)
    go false h ih k = absurd (let z : ◌≡◌ {A = ℕ} 0 1 = cc in omega arith)

-- unequal texts are not the same
pub differ : (s t : List ℕ) → s ≢ t → false ≡ same s t
differ s t n = go (same s t) refl
  where
    go : (b : Bool) → same s t ≡ b → false ≡ b
    go true q = absurd (n (same_eq s t q))
    go false q = refl

-- the slices' own `==` says the same
pub same-pointwise : (s t : List ℕ) → pointwise eqb s t ≡ same s t
unfolding same
same-pointwise [] [] = refl
same-pointwise [] (y ∷ t) = refl
same-pointwise (x ∷ s) [] = refl
same-pointwise (x ∷ s) (y ∷ t) = ap (λ b. eqb x y && b) (same-pointwise s t)
