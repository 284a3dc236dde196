-- How far a hold's yield may lie from the exact one. Nothing here rounds and no doubles are compared: prices and yield are the fractions that they
-- are, whole numbers over powers of two, and fractions are compared by products of whole numbers. Assumes nothing.
use Rattle.std.specs.Prelude.{ℕ, ◌*◌, ◌^◌, ◌≤◌, Bool, true, false, T, ℤ, pos, neg_ℤ, nat_abs, ◌-ℤ◌, ◌*ℤ◌, Float}
use Rattle.std.specs.Float.{nan, inf, fin}
use Rattle.std.specs.Float.Ieee.{up, down}
use Rattle.std.specs.Float.Ieee.Positive.{num, den, positive}
use Rattle.double.specs.declared.Yield.{Yield}
use Rattle.double.specs.declared.Yield.TheVariants.{Absent, Bp}
use Rattle.double.specs.Double.{hold_yield}

-- A price x above 0 is the fraction num x / den x. So new/old is the fraction rise / base.
abbrev pub rise : Float → Float → ℕ
rise old new = num new * den old

abbrev pub base : Float → Float → ℕ
base old new = num old * den new

-- "both prices are positive and the new one is at least half and at most twice the old"
pub record Moved (old new : Float) : Type 0 where
  pub from : T (positive old)
  pub to : T (positive new)
  pub at_least_half : base old new ≤ 2 * rise old new
  pub at_most_twice : rise old new ≤ 2 * base old new

-- |p / q - r / s| ≤ 1 / 2 ^ k, multiplied by 2 ^ k × q × s
abbrev pub Near : ℕ → ℤ → ℕ → ℤ → ℕ → Type 0
Near k p q r s = 2 ^ k * nat_abs (p *ℤ pos s -ℤ r *ℤ pos q) ≤ q * s

abbrev pub with_sign : Bool → ℕ → ℤ
with_sign false n = pos n
with_sign true n = neg_ℤ (pos n)

-- The yield is a number "within 1/2^k basis point of the exact (new/old - 1) × 10000": it is ±m × 2 ^ e = ±m × up e / down e, and the exact one
-- is (rise - base) × 10000 / base.
unfoldable pub Within : ℕ → Float → Float → Yield → Type 0
Within k old new Absent = ⊥
Within k old new (Bp nan) = ⊥
Within k old new (Bp (inf s)) = ⊥
Within k old new (Bp (fin s m e)) =
    Near k (with_sign s (m * up e)) (down e) ((pos (rise old new) -ℤ pos (base old new)) *ℤ pos 10000) (base old new)

-- "When both prices are positive and the new one is at least half and at most twice the old, the yield .. lies within 1/2^38 basis point"
abbrev pub Within38 : Type 0
Within38 = (old new : Float) → Moved old new → Within 38 old new (hold_yield old new)
