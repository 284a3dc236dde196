-- A day that opens at midnight, and the seconds between instants from 1970 on, are the quotients of document 01. Assumes nothing.
use Prim.Native.Nat.{ℕ, ◌+◌, ◌-◌, ◌/◌, ◌≤◌}
use mathlib.Core.Path.{◌≡◌, sym, ap, ap₂, ◌∙◌}
use native.Mathlib.Omega.{arith}
use lib.IntN.{ℤ, pos, negsuc, ◌-ℤ◌}
use lib.Signed.{quot_z}
use Rattle.bar.specs.Time.{floor_div, day_of, seconds_between}
use Rattle.le.proofs.Diff.{parts, of_pos, sub, same, D-pos}

-- "without it the value is 0": the day is that of document 01
pub day_midnight : (z : ℤ) → day_of 0 z ≡ floor_div z 86_400_000_000
unfolding day_of
day_midnight (pos n) = ap (λ (m : ℕ). pos (m / 86_400_000_000)) (omega arith)
day_midnight (negsuc n) = ap (λ (z : ℤ). floor_div z 86_400_000_000) (sym (parts (negsuc n)))

difference : (a b : ℕ) → a ≤ b → pos b -ℤ pos a ≡ pos (b - a)
difference a b h = ap₂ ◌-ℤ◌ (of_pos b) (of_pos a) ∙ sub b 0 a 0 ∙ same (b + 0) (0 + a) b a (omega arith) ∙ D-pos b a h

pub seconds_of : (a b : ℕ) → a ≤ b → seconds_between (pos a) (pos b) ≡ pos ((b - a) / 1000000)
unfolding seconds_between
seconds_of a b h = ap (λ (z : ℤ). quot_z z (pos 1000000)) (difference a b h)
