-- The distance of two fractions with a sign, (u - v) / q and (x - y) / z, by natural numbers, counted in 1 / 2 ^ 54. Assumes nothing.
use Prim.Native.Nat.{ℕ, ◌+◌, ◌*◌, ◌^◌, ◌≤◌, ◌<◌}
use native.Mathlib.Nat.{mul-le-mul_right, le_of_mul-le-mul_right}
use native.Mathlib.Omega.{arith}
use mathlib.Core.Bool.{Bool, true, false}
use mathlib.Core.Path.{◌≡◌, ap, ap₂, ◌∙◌}
use lib.IntN.{ℤ, pos, ◌-ℤ◌, ◌*ℤ◌}
use Rattle.le.proofs.Diff.{D, of_pos, of_neg, same, sub, mul, within}
use Rattle.double.specs.Distance.{Near, with_sign}

-- they are at most r / 2 ^ 54 apart: the distance multiplied by 2 ^ 54 × q × z
pub record Apart (r u v q x y z : ℕ) : Type 0 where
  pub above : 2 ^ 54 * (u * z + y * q) ≤ 2 ^ 54 * (x * q + v * z) + r * (q * z)
  pub below : 2 ^ 54 * (x * q + v * z) ≤ 2 ^ 54 * (u * z + y * q) + r * (q * z)

pub triangle : {r s u v q x y z a b c : ℕ} → 0 < z → Apart r u v q x y z → Apart s x y z a b c → Apart (r + s) u v q a b c
triangle {q = q} {c = c} Z h k = record {
  above = le_of_mul-le-mul_right (omega (arith, mul-le-mul_right c h.above, mul-le-mul_right q k.above)) Z;
  below = le_of_mul-le-mul_right (omega (arith, mul-le-mul_right c h.below, mul-le-mul_right q k.below)) Z;
}

pub less_1 : {r u q x z : ℕ} → Apart r u 0 q x 0 z → Apart r u q q x z z
less_1 h = omega arith

pub times : {r u v q x y z : ℕ} (k : ℕ) → Apart r u v q x y z → Apart (r * k) (u * k) (v * k) q (x * k) (y * k) z
times k h = omega (arith, mul-le-mul_right k h.above, mul-le-mul_right k h.below)

-- ---- signs

-- ±n is u - v
abbrev pub Signed : Bool → ℕ → ℕ → ℕ → Type 0
Signed false n u v = u ≡ v + n
Signed true n u v = v ≡ u + n

-- such u and v
abbrev pub plus : Bool → ℕ → ℕ
plus false n = n
plus true n = 0

abbrev pub minus : Bool → ℕ → ℕ
minus false n = 0
minus true n = n

pub signed : (s : Bool) (n : ℕ) → Signed s n (plus s n) (minus s n)
signed false n = omega arith
signed true n = omega arith

pub times_signed : (s : Bool) (n u v k : ℕ) → Signed s n u v → Signed s (n * k) (u * k) (v * k)
times_signed false n u v k h = rw h (omega arith)
times_signed true n u v k h = rw h (omega arith)

-- ±p / q, where it is near (b - a) / a, and that is at most 1 in size
pub most : (s : Bool) (p : ℕ) {r u v q a b : ℕ} → Signed s p u v → Apart r u v q b a a → b ≤ 2 * a → 0 < a → 2 ^ 54 * p ≤ (2 ^ 54 + r) * q
most false p {q = q} {a = a} h c l A = le_of_mul-le-mul_right (omega (arith, ap (λ (z : ℕ). z * a) h, mul-le-mul_right q l)) A
most true p {q = q} {a = a} h c l A = le_of_mul-le-mul_right (omega (arith, ap (λ (z : ℕ). z * a) h, mul-le-mul_right q l)) A

-- ---- in integers

pub exact : (a b k : ℕ) → (pos b -ℤ pos a) *ℤ pos k ≡ D (b * k) (a * k)
exact a b k =
    ap (λ (z : ℤ). z *ℤ pos k) (ap₂ ◌-ℤ◌ (of_pos b) (of_pos a) ∙ sub b 0 a 0)
    ∙ mul (b + 0) (0 + a) k
    ∙ same ((b + 0) * k) ((0 + a) * k) (b * k) (a * k) (omega arith)

-- 65536 / 2 ^ 54 is 1 / 2 ^ 38
pub near : (s : Bool) (n : ℕ) {r q x y z : ℕ} → r ≤ 65536 → Apart r (plus s n) (minus s n) q x y z → Near 38 (with_sign s n) q (D x y) z
near s n {q = q} {x = x} {y = y} {z = z} R h =
    let u = plus s n in
    let v = minus s n in
    rw (is s, mul u v z, mul x y q, sub (u * z) (v * z) (x * q) (y * q))
    (within (2 ^ 38) (u * z + y * q) (v * z + x * q) (q * z) (omega (arith, mul-le-mul_right (q * z) R)) (omega (arith, mul-le-mul_right (q * z) R)))
  where
    is : (s : Bool) → with_sign s n ≡ D (plus s n) (minus s n)
    is false = of_pos n
    is true = of_neg n
