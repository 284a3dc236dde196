-- A walk over rows: the next one, the end, what one has, and its text. Assumes nothing.
use Prim.Native.Nat.{ℕ, ◌+◌, ◌*◌, ◌≤◌, ◌<◌}
use native.Mathlib.Omega.{arith}
use native.Mathlib.Numerals.{add-one}
use mathlib.Core.List.{List, [], ◌∷◌, map}
use mathlib.Core.Path.{◌≡◌}
use lib.ListN.{get_or, drop, drop_of_length-le}
use Rattle.list.specs.Numbered.{rows}
use Rattle.list.proofs.Laws.{numbered-at, numbered-map, rows-length, rows_next}

module _ {X : Type 0} (f : List ℕ → X) (w n : ℕ) (l : List ℕ) (i : ℕ) where
  pub rows_more : i < n → drop i (rows f w n l) ≡ f (drop (w * i) l) ∷ drop (i + 1) (rows f w n l)
  rows_more h = rw add-one (rows_next f w n l i h)

  pub rows_end : n ≤ i → drop i (rows f w n l) ≡ []
  rows_end h = drop_of_length-le (rows f w n l) {i = i} (omega (arith, rows-length f w n l))

-- what a row has, by its number
pub map_at : {X Y : Type 0} (g : X → Y) (f : List ℕ → X) (w n : ℕ) (l : List ℕ) (j : ℕ) (d : Y) → j < n
    → get_or (map g (rows f w n l)) j d ≡ g (f (drop (w * j) l))
unfolding rows
map_at g f w n l j d h = rw (numbered-map g (λ (i : ℕ). f (drop (w * i) l)) n) (numbered-at (λ (i : ℕ). g (f (drop (w * i) l))) n j d h)
