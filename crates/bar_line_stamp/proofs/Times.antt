-- The instant that the code computes in signed numbers. Assumes nothing.
use Prim.Native.Nat.{ℕ, ◌≤◌}
use native.Mathlib.Omega.{arith}
use mathlib.Core.Path.{◌≡◌}
use lib.IntN.{ℤ, pos, neg_ℤ, ◌-ℤ◌, ◌*ℤ◌}
use lib.Signed.{◌≤ℤ◌}
use mir.Syntax.{w64}
use mir.Val.{to_z, of_z}
use Rattle.std.proofs.lemmas.Int.{ints}
use Rattle.bar_line.specs.Line.{instant_at}

pub instant-is : (wall : ℕ) (offset : ℤ) → wall ≤ 5_000_000_000 → (neg_ℤ (pos 86_340) ≤ℤ offset) × (offset ≤ℤ pos 86_340)
    → to_z w64 (of_z w64 (to_z w64 (of_z w64 (to_z w64 wall -ℤ to_z w64 (of_z w64 offset))) *ℤ pos 1_000_000)) ≡ instant_at wall offset
unfolding instant_at
instant-is wall offset h k = omega (arith, ints)

pub offset-is : (offset : ℤ) → (neg_ℤ (pos 86_340) ≤ℤ offset) × (offset ≤ℤ pos 86_340) → to_z w64 (of_z w64 offset) ≡ offset
offset-is offset k = omega (arith, ints)
