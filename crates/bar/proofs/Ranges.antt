-- A time in range is small. Assumes nothing.
use Prim.Native.Nat.{◌^◌, ◌<◌}
use native.Mathlib.Omega.{arith}
use mathlib.Core.Path.{◌≡◌}
use mathlib.Core.Bool.{true, and-eq-true_iff, false≢true}
use borrow.Author.Tests.{leb-true}
use lib.IntN.{ℤ, pos, negsuc}
use mir.Syntax.{w32}
use mir.Val.{SFits}
use lib.Signed.{mag, le_z}
use Rattle.bar.specs.Bar.{last_instant, instant_ok, offset_ok, time_ok, local_of}
use Rattle.bar.specs.declared.Time.{Time}
use Rattle.bar.proofs.Steps.{local_small}

instant-small : (z : ℤ) → instant_ok z ≡ true → mag z < 2 ^ 61
instant-small (pos n) h = omega (arith, leb-true n last_instant ((and-eq-true_iff (le_z (pos 0) (pos n)) (le_z (pos n) (pos last_instant))).0 h).1)
instant-small (negsuc n) h = absurd (false≢true h)

early : (t : Time) → time_ok t ≡ true → mag t.instant.0 < 2 ^ 61
early t h = instant-small t.instant.0 ((and-eq-true_iff (instant_ok t.instant.0) (offset_ok t.offset)).0 h).0

pub time-small : (t : Time) → time_ok t ≡ true → mag t.instant.0 < 2 ^ 62
time-small t h = omega (arith, early t h)

-- and so is its local time
pub wall_small : (t : Time) → time_ok t ≡ true → SFits w32 t.offset → mag (local_of t).0 < 2 ^ 62
wall_small t h o = local_small t.instant.0 t.offset (early t h) o
