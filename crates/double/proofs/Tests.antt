-- What the code's tests of doubles decide. Assumes nothing.
use Prim.Native.Nat.{ℕ, zero, suc, ◌*◌, ◌<◌}
use native.Mathlib.Nat.{mul-pos, zero-lt-suc}
use native.Mathlib.Omega.{arith}
use mathlib.Core.Path.{◌≡◌, refl, sym, ◌∙◌}
use mathlib.Core.Bool.{Bool, true, false, not, ◌&&◌, ◌||◌, beq, true≢false}
use lib.Dec.{T, eqb}
use borrow.Author.Tests.{ne_eqb}
use lib.Ieee.{Float, nan, inf, fin, of_int, is_nan, eq, ne, up, down}
use lib.Ieee.Compare.{nan_differs}
use lib.Ieee.Fits.{up_pos}
use lib.Ieee.Scale.{finite}
use Rattle.std.specs.Float.{float_is_finite}
use Rattle.double.specs.Double.{whole, is_zero}

-- ---- std's words

pub finite_is : (x : Float) → float_is_finite x ≡ finite x
unfolding float_is_finite
finite_is nan = refl
finite_is (inf s) = refl
finite_is (fin s m e) = refl

-- ---- a number: what equals itself

pub number : (x : Float) → ne x x ≡ false → T (not (is_nan x))
unfolding is_nan
number nan h = absurd (true≢false (sym nan_differs ∙ h))
number (inf s) h = tt
number (fin s m e) h = tt

-- ---- zero, of either sign

pub zero_test : (x : Float) → eq x (whole 0) ≡ is_zero x
unfolding eq of_int
zero_test nan = refl
zero_test (inf s) = refl
zero_test (fin s m e) = go m (up e) (down e) (up_pos e) s
  where
    go : (m a k : ℕ) → 0 < a → (s : Bool) → eqb (m * a * 1) (0 * 1 * k) && (beq s false || eqb (m * a * 1) 0) ≡ eqb m 0
    go zero a k h s =
        let p : 0 * a * 1 ≡ 0 = omega arith in
        let q : 0 * 1 * k ≡ 0 = omega arith in
        rw (p, q) (either s)
      where
        either : (s : Bool) → beq s false || true ≡ true
        either true = refl
        either false = refl
    go (suc m) a k h s =
        let p : 0 < suc m * a = mul-pos (zero-lt-suc m) h in
        rw (ne_eqb (suc m * a * 1) (0 * 1 * k) (omega arith), ne_eqb (suc m) 0 (omega arith))
