-- A local time is far from the ends of 64 bits, so that minutes can be added. Assumes nothing.
use Prim.Native.Nat.{◌^◌, ◌<◌}
use native.Mathlib.Omega.{arith}
use lib.IntN.{ℤ, pos, ◌+ℤ◌, ◌*ℤ◌}
use lib.Signed.{mag}
use mir.Syntax.{w32}
use mir.Val.{SFits}
use Rattle.std.proofs.lemmas.Int.{ints}
use Rattle.bar.specs.Time.{local_time}

sum_small : (t o : ℤ) → mag t < 2 ^ 61 → SFits w32 o → mag (t +ℤ o *ℤ pos 1000000) < 2 ^ 62
sum_small t o ht ho = grind (arith, ints)

pub local_small : (t o : ℤ) → mag t < 2 ^ 61 → SFits w32 o → mag (local_time t o) < 2 ^ 62
unfolding local_time
local_small t o ht ho = sum_small t o ht ho
