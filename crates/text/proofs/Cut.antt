-- The parts of a text one after another: the part that ends at a separator, and how many are behind it. Assumes nothing.
use Prim.Native.Nat.{ℕ, suc, ◌+◌, ◌<◌, ◌≤◌}
use native.Mathlib.Omega.{arith}
use native.Mathlib.Decide.{dec_lt}
use mathlib.Core.Path.{◌≡◌, refl, ap}
use mathlib.Core.Bool.{Bool, true, false, cond}
use mathlib.Core.List.{List, [], ◌∷◌}
use lib.Dec.{eqb}
use lib.ListN.{length}
use lib.Seq.{slice}
use Rattle.text.specs.Text.{split, onto}
use Rattle.text.specs.Read.{Part, FirstAt}
use Rattle.text.proofs.Parts.{onto-count, split_some, split-next, split-last}

-- one part is the whole text
pub split_one : (b : ℕ) (l : List ℕ) → length (split b l) ≡ 1 → split b l ≡ l ∷ []
unfolding split onto
split_one b [] h = refl
split_one b (x ∷ t) h = go (eqb x b) (split_one b t) h
  where
    go : (e : Bool) → (length (split b t) ≡ 1 → split b t ≡ t ∷ []) → length (cond e ([] ∷ split b t) (onto x (split b t))) ≡ 1
        → cond e ([] ∷ split b t) (onto x (split b t)) ≡ (x ∷ t) ∷ []
    go true ih g = absurd (omega (arith, split_some b t))
    go false ih g = ap (onto x) (ih (omega (arith, onto-count x (split b t) (split_some b t))))

-- the part that ends at r, and n parts behind it
pub record CutAt (b : ℕ) (s : List ℕ) (from to r n : ℕ) : Type 0 where
  pub low : from ≤ r
  pub high : r < to
  pub within : to ≤ length s
  pub fields : split b (slice from to s) ≡ slice from r s ∷ split b (slice (r + 1) to s)
  pub left : length (split b (slice (r + 1) to s)) ≡ n

pub cut : {b : ℕ} {s : List ℕ} {from to r n : ℕ} → Part s from to → FirstAt s from to b r → length (split b (slice from to s)) ≡ suc n → 1 ≤ n → CutAt b s from to r n
cut {b} {s} {from} {to} {r} {n} p f h k =
    let more : r < to = inner in
    let e = split-next p f more in
    record { low = f.low; high = more; within = p.within; fields = e; left = omega (arith, ap length e) }
  where
    inner : r < to
    inner = elim (dec_lt r to) [ yes l ↦ l | no l ↦ absurd (omega (arith, ap length (split-last p f (omega (arith, f.high))))) ]

pub cut-rest : {b : ℕ} {s : List ℕ} {from to r n : ℕ} → CutAt b s from to r n → Part s (r + 1) to
cut-rest c = record { order = omega (arith, c.high); within = c.within }
