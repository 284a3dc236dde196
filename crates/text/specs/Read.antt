-- What the contracts say of places in a text. Assumes nothing.
use Rattle.std.specs.Prelude.{ℕ, suc, ◌+◌, ◌≤◌, ◌≡◌, Bool, true, false, List, [], ◌∷◌, eqb, length}
use Rattle.std.proofs.Math.Seq.{slice}
use Rattle.le.specs.Le.{patch}

-- from..to is a part of s
pub record Part (s : List ℕ) (from to : ℕ) : Type 0 where
  pub order : from ≤ to
  pub within : to ≤ length s

-- 0 where it is here, else one more than behind it
unfoldable pub index_after : Bool → ℕ → ℕ
index_after true k = 0
index_after false k = suc k

-- where the first b of the list stands, or its length
unfoldable pub index_of : ℕ → List ℕ → ℕ
index_of b [] = 0
index_of b (x ∷ s) = index_after (eqb x b) (index_of b s)

-- r is where the first b of s in from..to stands, or to where there is none
pub record FirstAt (s : List ℕ) (from to b r : ℕ) : Type 0 where
  pub low : from ≤ r
  pub high : r ≤ to
  pub at : r ≡ from + index_of b (slice from to s)

-- the text t was written at `at` of the bytes before, which else are as they were; r is the place behind it
pub record Put (before after : List ℕ) (at : ℕ) (t : List ℕ) (r : ℕ) : Type 0 where
  pub written : after ≡ patch before at t
  pub end : r ≡ at + length t
  pub fit : r ≤ length before
  pub kept : length after ≡ length before
