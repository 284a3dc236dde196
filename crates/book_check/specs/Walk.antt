-- What the full check asks of a list of slots. Assumes nothing.
use Rattle.std.specs.Prelude.{ℕ, ◌-◌, Bool, ◌||◌, List, [], ◌∷◌, eqb}
use Rattle.std.specs.Int.Signed.{lt_z}
use Rattle.le.specs.Field.{i64}
use Rattle.text.specs.Conditions.{all_of, every}
use Rattle.book.specs.Check.{rising}

-- each slot has f, "instants strictly rising"
unfoldable pub orderly : (List ℕ → Bool) → List (List ℕ) → Bool
orderly f os = all_of (every f os ∷ rising os ∷ [])

-- the instant of slot number i, at p, is above that of the slot before it, where there is one
unfoldable pub risen : List ℕ → ℕ → ℕ → Bool
risen b p i = eqb i 0 || lt_z (i64 b (p - 32)) (i64 b p)
