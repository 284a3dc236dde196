-- An element of a list by its number: there is one below the length, a walk meets it, and a map keeps its place. Assumes nothing.
use Prim.Native.Nat.{ℕ, zero, suc, ◌<◌, ◌≤◌}
use native.Mathlib.Omega.{arith}
use mathlib.Core.Path.{◌≡◌, refl}
use mathlib.Core.List.{List, [], ◌∷◌, map}
use Rattle.std.specs.Prelude.{None, Some, slice_get}
use lib.ListN.{length, get_or, drop}

pub some_at : {X : Type 0} (xs : List X) (d : X) (i : ℕ) → i < length xs → slice_get xs i ≡ Some (get_or xs i d)
some_at [] d i h = absurd (omega arith)
some_at (x ∷ xs) d zero h = refl
some_at (x ∷ xs) d (suc i) h = some_at xs d i (omega arith)

pub none-at : {X : Type 0} (xs : List X) (i : ℕ) → length xs ≤ i → slice_get xs i ≡ None
none-at [] i h = refl
none-at (x ∷ xs) zero h = absurd (omega arith)
none-at (x ∷ xs) (suc i) h = none-at xs i (omega arith)

-- the first of what is left of a list is its element there
pub next-at : {X : Type 0} (xs : List X) (i : ℕ) {x : X} {rest : List X} → drop i xs ≡ x ∷ rest → slice_get xs i ≡ Some x
next-at [] zero e = cc
next-at [] (suc i) e = cc
next-at (x ∷ xs) zero e = cc
next-at (x ∷ xs) (suc i) e = next-at xs i e

pub map_some : {X Y : Type 0} (f : X → Y) (xs : List X) (i : ℕ) (x : X) → slice_get xs i ≡ Some x → slice_get (map f xs) i ≡ Some (f x)
map_some f [] i x e = cc
map_some f (y ∷ ys) zero x e = cc
map_some f (y ∷ ys) (suc i) x e = map_some f ys i x e
