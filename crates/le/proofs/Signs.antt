-- Signed integers and their bits, for every width: the machine writes each result as bits and reads it back. Assumes nothing.
use Prim.Native.Nat.{ℕ, suc, ◌-◌, ◌^◌, ◌<◌}
use native.Mathlib.Nat.{pow-suc}
use native.Mathlib.Omega.{arith}
use mathlib.Core.Path.{◌≡◌, refl, sym, ap, ◌∙◌, subst}
use mathlib.Core.Bool.{Bool, true, false, cond, true≢false, false≢true}
use lib.IntN.{ℤ, pos, negsuc, nat_abs}
use lib.Signed.{lt_z, non_neg, mag}
use lib.Dec.{T, ltb}
use borrow.Author.Tests.{lt-ltb, le-ltb}
use mir.Syntax.{Width}
use mir.Val.{Fits, SFits, bits, hbits, sel, to_z, of_z}
use mir.ValLaws.{to_z-of_z, of_z_fits, bits-suc}
use Rattle.le.specs.Le.{sign_bits, signed}

-- written as bits and read back
abbrev pub back : Width → ℤ → ℤ
back w z = to_z w (of_z w z)

-- a result that equals one that fits: it fits, and is read back
pub step : {w : Width} {x y : ℤ} → x ≡ y → SFits w y → SFits w x × (back w x ≡ y)
step {w} {x} {y} e F = (subst (SFits w) (sym e) F, ap (back w) e ∙ to_z-of_z w y F)

-- the sign that a test found
pub sign : {w : Width} {z : ℤ} {b : Bool} → SFits w z → lt_z (back w z) (pos 0) ≡ b → lt_z z (pos 0) ≡ b
sign {w} {z} {b} F t = subst (λ (y : ℤ). lt_z y (pos 0) ≡ b) (to_z-of_z w z F) t

pub not-below : (a : ℕ) → lt_z (pos a) (pos 0) ≡ true → ⊥
not-below a t = false≢true (sym (le-ltb a 0 (omega arith)) ∙ t)

-- ---- to bits and from bits

-- the bits that the machine has are those of the definition, and so is what it reads from them
pub bits_are : (w : Width) (z : ℤ) → of_z w z ≡ sign_bits (hbits w) z
unfolding sign_bits
bits_are w (pos n) = refl
bits_are w (negsuc n) = ap (λ (b : ℕ). 2 ^ b - suc n) (bits-suc w)

pub signed_is : (w : Width) (n : ℕ) → to_z w n ≡ signed (hbits w) n
unfolding signed
signed_is w n = go (ltb n (2 ^ hbits w))
  where
    go : (t : Bool) → sel t (pos n) (negsuc (2 ^ bits w - suc n)) ≡ cond t (pos n) (negsuc (2 ^ suc (hbits w) - suc n))
    go true = refl
    go false = ap (λ (b : ℕ). negsuc (2 ^ b - suc n)) (bits-suc w)

-- z is not negative: it can be cast to the unsigned type, and the cast gives its bits
abbrev pub Plain : Width → ℤ → Type 0
Plain w z = (T (non_neg (back w z)) × Fits w (nat_abs (back w z))) × (nat_abs (back w z) ≡ sign_bits (hbits w) z)

pub plain : (w : Width) (z : ℤ) → SFits w z → lt_z (back w z) (pos 0) ≡ false → Plain w z
plain w (pos a) F t =
    subst (λ (y : ℤ). (T (non_neg y) × Fits w (nat_abs y)) × (nat_abs y ≡ sign_bits (hbits w) (pos a))) (sym (to_z-of_z w (pos a) F))
    ((tt, of_z_fits w (pos a) F), bits_are w (pos a))
plain w (negsuc a) F t = absurd (true≢false (sign F t))

-- ---- the bits of a signed number are read back as the number

pub signed_back : (h : ℕ) (z : ℤ) → mag z < 2 ^ h → signed h (sign_bits h z) ≡ z
unfolding signed sign_bits
signed_back h (pos n) k = rw (lt-ltb n (2 ^ h) k)
signed_back h (negsuc n) k = rw (le-ltb (2 ^ suc h - suc n) (2 ^ h) (omega (arith, pow-suc 2 h))) (ap negsuc (omega (arith, pow-suc 2 h)))

pub sign_bits_lt : (h : ℕ) (z : ℤ) → mag z < 2 ^ h → sign_bits h z < 2 ^ suc h
unfolding sign_bits
sign_bits_lt h (pos n) k = omega (arith, pow-suc 2 h)
sign_bits_lt h (negsuc n) k = omega (arith, pow-suc 2 h)
