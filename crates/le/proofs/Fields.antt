-- A field's bytes are read back as the field: a signed integer, a double. (A number: `le_nat-le_bytes`.) Assumes nothing.
use Prim.Native.Nat.{ℕ, suc, ◌^◌, ◌<◌}
use mathlib.Core.Path.{◌≡◌, ap, ◌∙◌, subst}
use lib.Dec.{T}
use lib.IntN.{ℤ}
use lib.Signed.{mag}
use lib.Ieee.{Float, binary64, fits, of_bits, to_bits}
use lib.Ieee.Bits.{of_bits-to_bits}
use Rattle.le.specs.Le.{le_bytes, le_nat, sign_bits, signed}
use Rattle.le.proofs.Laws.{le_nat-le_bytes}
use Rattle.le.proofs.Signs.{signed_back, sign_bits_lt}
use Rattle.le.proofs.Reals.{bits_lt}

-- in n bytes of h + 1 bits
pub integer_back : (n h : ℕ) (z : ℤ) → 2 ^ suc h ≡ 256 ^ n → mag z < 2 ^ h → signed h (le_nat (le_bytes n (sign_bits h z))) ≡ z
integer_back n h z e k =
    ap (signed h) (le_nat-le_bytes n (sign_bits h z) (subst (λ (m : ℕ). sign_bits h z < m) e (sign_bits_lt h z k))) ∙ signed_back h z k

pub double_back : (x : Float) → T (fits binary64 x) → of_bits binary64 (le_nat (le_bytes 8 (to_bits binary64 x))) ≡ x
double_back x f = ap (of_bits binary64) (le_nat-le_bytes 8 (to_bits binary64 x) (bits_lt x f)) ∙ of_bits-to_bits binary64 x f
