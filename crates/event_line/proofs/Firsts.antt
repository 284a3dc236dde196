-- The first separator of a part, by what stands before it. Assumes nothing.
use mathlib.Core.Path.{◌≡◌, refl, ap}
use mathlib.Core.Logic.{◌≢◌}
use mathlib.Core.Bool.{Bool, true, false}
use mathlib.Core.List.{List, [], ◌∷◌}
use Prim.Native.Nat.{ℕ, zero, suc, ◌+◌, ◌-◌, ◌≤◌, ◌<◌}
use native.Mathlib.Decide.{dec_lt}
use native.Mathlib.Omega.{arith}
use borrow.Author.Tests.{eq-eqb, ne_eqb}
use lib.Dec.{eqb}
use lib.ListN.{length, get_or}
use lib.Seq.{slice, length-slice}
use Rattle.text.specs.Read.{index_of, index_after, FirstAt}
use Rattle.text.proofs.Laws.{part_cons, part_nil}

index_most : (b : ℕ) (l : List ℕ) → index_of b l ≤ length l
unfolding index_of index_after
index_most b [] = omega arith
index_most b (x ∷ t) = go (eqb x b) (index_most b t)
  where
    go : (e : Bool) → index_of b t ≤ length t → index_after e (index_of b t) ≤ suc (length t)
    go true h = omega arith
    go false h = omega arith

module _ (s : List ℕ) (b to : ℕ) (w : to ≤ length s) where
  index_skip : (from : ℕ) → from < to → get_or s from 0 ≢ b → index_of b (slice from to s) ≡ suc (index_of b (slice (from + 1) to s))
  unfolding index_of index_after
  index_skip from h n = rw (part_cons from to s h w, index_of, ne_eqb (get_or s from 0) b n)

  -- d bytes that are not b are passed over
  index_on : (d from : ℕ) → from + d ≤ to → ((j : ℕ) → from ≤ j → j < from + d → get_or s j 0 ≢ b) → index_of b (slice from to s) ≡ d + index_of b (slice (from + d) to s)
  index_on zero from h n =
      let e : from + 0 ≡ from = omega arith in
      let q = ap (λ (x : ℕ). index_of b (slice x to s)) e in
      omega (arith, q)
  index_on (suc d) from h n =
      let e : from + suc d ≡ from + 1 + d = omega arith in
      let q = ap (λ (x : ℕ). index_of b (slice x to s)) e in
      let i = index_on d (from + 1) (omega arith) (λ j l k. n j (omega arith) (omega arith)) in
      omega (arith, q, i, index_skip from (omega arith) (n from (omega arith) (omega arith)))

  index_here : (r : ℕ) → r < to → get_or s r 0 ≡ b → index_of b (slice r to s) ≡ 0
  unfolding index_of index_after
  index_here r h e = rw (part_cons r to s h w, index_of, eq-eqb (get_or s r 0) b e)

  index_none : (r : ℕ) → to ≤ r → index_of b (slice r to s) ≡ 0
  unfolding index_of
  index_none r h = rw (part_nil r to s h)

  -- b stands behind none, or the part ends
  pub first-at : {from r : ℕ} → from ≤ r → r ≤ to → ((j : ℕ) → from ≤ j → j < r → get_or s j 0 ≢ b) → (r < to → get_or s r 0 ≡ b) → FirstAt s from to b r
  first-at {from} {r} l h n m =
      let e : from + (r - from) ≡ r = omega arith in
      let i = index_on (r - from) from (omega arith) (λ j a k. n j a (omega arith)) in
      let z : index_of b (slice r to s) ≡ 0 = elim (dec_lt r to) [ yes k ↦ index_here r k (m k) | no k ↦ index_none r (omega arith) ] in
      record { low = l; high = h; at = rw (i, e, z) (omega arith) }

  -- there is a first place, or the end
  pub first_some : (from : ℕ) → from ≤ to → FirstAt s from to b (from + index_of b (slice from to s))
  first_some from h = record { low = omega arith; high = omega (arith, index_most b (slice from to s), length-slice from to s w); at = refl }

  -- it stands behind what is not b
  pub first_past : (from m : ℕ) → from ≤ m → m ≤ to → ((j : ℕ) → from ≤ j → j < m → get_or s j 0 ≢ b) → m ≤ from + index_of b (slice from to s)
  first_past from m l h n = omega (arith, index_on (m - from) from (omega arith) (λ j a k. n j a (omega arith)))
