-- Lists by the numbers of their elements. Assumes nothing.
use Rattle.std.specs.Prelude.{ℕ, zero, suc, ◌*◌, List, [], ◌∷◌, ◌++◌, drop}

-- f 0, f 1, .. , n elements
unfoldable pub numbered {ℓ} : {X : Type ℓ} → (ℕ → X) → ℕ → List X
numbered f zero = []
numbered f (suc n) = numbered f n ++ f n ∷ []

-- n rows of w elements each, read by f from where each starts
unfoldable pub rows {ℓ} : {X : Type ℓ} → (List ℕ → X) → ℕ → ℕ → List ℕ → List X
rows f w n l = numbered (λ i. f (drop (w * i) l)) n
