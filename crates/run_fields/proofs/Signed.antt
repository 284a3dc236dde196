-- A whole number by its sign: what its magnitude gives in decimal. Assumes nothing.
use Prim.Native.Nat.{ℕ, ◌^◌, ◌<◌}
use native.Mathlib.Omega.{arith}
use mathlib.Core.Path.{◌≡◌, refl, ap, ◌∙◌}
use mathlib.Core.Bool.{true, false, true≢false}
use mathlib.Core.List.{List, [], ◌∷◌}
use lib.IntN.{ℤ, pos, negsuc, nat_abs}
use lib.Signed.{lt_z}
use mir.Syntax.{w32, w64}
use mir.Val.{SFits}
use mir.ValLaws.{to_z-of_z}
use mir.Facts.{sfits_widen}
use Rattle.le.proofs.Signs.{back, step, sign, not-below}
use Rattle.text.specs.Number.{decimal_of, integer_of}
use Rattle.text.specs.Read.{Put}
use Rattle.text.proofs.Put.{put-put}
use Rattle.text_write.proofs.Written.{length_decimal}
use Rattle.run_fields.specs.Fields.{ShortPut}
use Rattle.run_fields.proofs.Short.{short_as}

-- below 0, a `-` and the magnitude
below : (z : ℤ) → SFits w64 z → lt_z (back w64 z) (pos 0) ≡ true → 45 ∷ decimal_of (nat_abs z) ≡ integer_of z
unfolding integer_of
below (pos a) F t = absurd (not-below a (sign F t))
below (negsuc a) F t = refl

-- from 0 on, the number
above : (z : ℤ) → SFits w64 z → lt_z (back w64 z) (pos 0) ≡ false → decimal_of (nat_abs z) ≡ integer_of z
unfolding integer_of
above (pos a) F t = refl
above (negsuc a) F t = absurd (true≢false (sign F t))

-- m is the magnitude
module _ (z : ℤ) (F : SFits w64 z) {m : ℕ} (few : m < 2 ^ 64) (is : m ≡ nat_abs (back w64 z)) where
  decimal-is : decimal_of m ≡ decimal_of (nat_abs z)
  decimal-is = ap decimal_of is ∙ ap (λ y. decimal_of (nat_abs y)) (to_z-of_z w64 z F)

  pub below_put : {a b c : List ℕ} {at r end : ℕ} → lt_z (back w64 z) (pos 0) ≡ true → Put a b at (45 ∷ []) r → Put b c r (decimal_of m) end → ShortPut 21 a c at (integer_of z) end
  below_put t u v = short_as (ap (λ l. 45 ∷ l) decimal-is ∙ below z F t) (record { put = put-put u v; short = omega (arith, length_decimal m few) })

  pub above_put : {a b : List ℕ} {at r : ℕ} → lt_z (back w64 z) (pos 0) ≡ false → Put a b at (decimal_of m) r → ShortPut 21 a b at (integer_of z) r
  above_put t u = short_as (decimal-is ∙ above z F t) (record { put = u; short = omega (arith, length_decimal m few) })

-- an i32 as an i64
pub widened : (z : ℤ) → SFits w32 z → SFits w64 (back w32 z) × (back w64 (back w32 z) ≡ z)
widened z F = step (to_z-of_z w32 z F) (sfits_widen {w = w32} {w' = w64} tt F)
