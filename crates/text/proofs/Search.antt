-- What a search keeps: no b stands before the place that it has come to. Assumes nothing.
use mathlib.Core.Path.{◌≡◌}
use mathlib.Core.Logic.{◌≢◌}
use mathlib.Core.List.{List}
use Prim.Native.Nat.{ℕ, suc, ◌+◌, ◌≤◌, ◌<◌}
use native.Mathlib.Omega.{arith}
use borrow.Author.Tests.{eq-eqb, ne_eqb}
use lib.ListN.{length, get_or}
use lib.Seq.{slice}
use Rattle.text.specs.Read.{index_of, index_after, FirstAt}
use Rattle.text.proofs.Laws.{part_cons, part_nil}

-- the search of b in from..to has come to i
pub record Finding (s : List ℕ) (from to b i : ℕ) : Type 0 where
  pub low : from ≤ i
  pub high : i ≤ to
  pub within : to ≤ length s
  pub same : i + index_of b (slice i to s) ≡ from + index_of b (slice from to s)

module _ {s : List ℕ} {from to b i : ℕ} (f : Finding s from to b i) where
  -- b stands here
  pub finding_hit : i < to → get_or s i 0 ≡ b → FirstAt s from to b i
  unfolding index_of index_after
  finding_hit h e =
      let z : index_of b (slice i to s) ≡ 0 = rw (part_cons i to s h f.within, index_of, eq-eqb (get_or s i 0) b e) in
      record { low = f.low; high = f.high; at = omega (arith, f.same) }

  -- it does not
  pub finding_miss : i < to → get_or s i 0 ≢ b → Finding s from to b (i + 1)
  unfolding index_of index_after
  finding_miss h n =
      let z : index_of b (slice i to s) ≡ suc (index_of b (slice (i + 1) to s)) = rw (part_cons i to s h f.within, index_of, ne_eqb (get_or s i 0) b n) in
      record { low = omega (arith, f.low); high = omega arith; within = f.within; same = omega (arith, f.same) }

  -- b stands nowhere
  pub finding_last : to ≤ i → FirstAt s from to b to
  unfolding index_of
  finding_last h =
      let z : index_of b (slice i to s) ≡ 0 = rw (part_nil i to s h) in
      record { low = omega (arith, f.low, f.high); high = omega arith; at = omega (arith, f.same, f.high) }
