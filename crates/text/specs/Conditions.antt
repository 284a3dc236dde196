-- Conditions: a list of them, one on each element of a list, one on some element. Assumes nothing.
use Rattle.std.specs.Prelude.{Bool, true, false, cond, List, [], ◌∷◌}

-- all of them hold
unfoldable pub all_of : List Bool → Bool
all_of [] = true
all_of (b ∷ bs) = cond b (all_of bs) false

-- each element has it
unfoldable pub every {ℓ} : {X : Type ℓ} → (X → Bool) → List X → Bool
every f [] = true
every f (x ∷ xs) = cond (f x) (every f xs) false

-- some element has it
unfoldable pub any_of {ℓ} : {X : Type ℓ} → (X → Bool) → List X → Bool
any_of f [] = false
any_of f (x ∷ xs) = cond (f x) true (any_of f xs)
