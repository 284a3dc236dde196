-- How far one rounding goes: a fraction of at most 2 ^ e is rounded by at most 2 ^ e / 2 ^ 54. Assumes nothing.
use Prim.Native.Nat.{ℕ, ◌+◌, ◌-◌, ◌*◌, ◌/◌, ◌%◌, ◌^◌, ◌≤◌, ◌<◌, compare, Ordering}
use native.Mathlib.Nat.{mul_right_comm, one-mul, mul-pos, mul-le-mul_left, mul-le-mul_right, mul-lt-mul_of_pos_right, le_of_mul-le-mul_right, lt_of_mul-lt-mul_right, lt_of_lt_of_le, pow-suc, div-add-mod', div-lt_iff_lt-mul, mod-lt, eq-or-lt_of_le, le_of_lt}
use native.Mathlib.Omega.{arith}
use mathlib.Core.Bool.{Bool, true, false, not}
use mathlib.Core.Logic.{inl, inr}
use mathlib.Core.Path.{◌≡◌, sym, ap, ◌∙◌, subst}
use lib.Dec.{T, is_le, compare_is_eq, leb→le, nleb→lt, eqb→eq, lit<}
use lib.IntN.{ℤ}
use lib.Pow.{pow_pos, pow-add, pow_mono, pow-lt}
use lib.Ieee.{Float, nan, inf, fin, binary64, up, down, size, nearest, round}
use lib.Ieee.Digits.{size-le}
use lib.Ieee.Fits.{round_is}
use lib.Ieee.Exact.{HasValue, units_val, round_exact}
use lib.Ieee.Nearest.{closest}
use lib.Ieee.Order.{drop, kept}
use Rattle.double.proofs.Apart.{Apart, Signed, plus, minus}

-- x is ±p / q with the sign s, at most 2 ^ e / 2 ^ 54 from (u - v) / c
pub record Rounded (x : Float) (s : Bool) (u v c e : ℕ) : Type 0 where
  pub m : ℕ
  pub j : ℤ
  pub is : x ≡ fin s m j
  pub close : Apart (2 ^ e) (plus s (m * up j)) (minus s (m * up j)) (down j) u v c

-- x lies within r of y
abbrev Close : ℕ → ℕ → ℕ → Type 0
Close x y r = (x ≤ y + r) × (y ≤ x + r)

-- ---- the whole number nearest to n / u is at most a half away

nearest_close : (q r u : ℕ) (o : Ordering) → r < u → (T (is_le o) → r * 2 ≤ u) → (T (not (is_le o)) → u < r * 2) → (T (compare_is_eq o) → r * 2 ≡ u)
    → Close (2 * (nearest q o * u)) (2 * (q * u + r)) u
nearest_close q r u Ordering.lt h le gt eq = let k = le tt in omega arith
nearest_close q r u Ordering.eq h le gt eq =
    let k = eq tt in
    let t : q % 2 * u ≤ 1 * u = mul-le-mul_right u (bit q) in
    omega arith
  where
    bit : (q : ℕ) → q % 2 ≤ 1
    bit q = omega arith
nearest_close q r u Ordering.gt h le gt eq = let k = gt tt in omega arith

closest_close : (n u : ℕ) → 0 < u → Close (2 * (closest n u * u)) (2 * n) u
closest_close n u U =
    subst (λ (x : ℕ). Close (2 * (closest n u * u)) (2 * x) u) (div-add-mod' n u)
    (nearest_close (n / u) (n % u) u (compare (n % u * 2) u) (mod-lt n U) (leb→le (n % u * 2) u) (nleb→lt (n % u * 2) u) (eqb→eq (n % u * 2) u))

-- ---- one rounding of ±a / c, which is (u - v) / c, to a double; 2 ^ 1074 of the smallest doubles make 1

module _ (s : Bool) (a u v c e : ℕ) (is : Signed s a u v) (C : 0 < c) (E : e ≤ 1000) where
  -- from a fraction g / l that x equals
  from-value : (x : Float) (g l : ℕ) → 0 < l → HasValue x s g l → Close (2 ^ 54 * (g * c)) (2 ^ 54 * (a * l)) (2 ^ e * (c * l)) → Rounded x s u v c e
  from-value nan g l L w h = absurd w
  from-value (inf t) g l L w h = absurd w
  from-value (fin t m j) g l L w h = record { m = m; j = j; is = ap (λ (u : Bool). fin u m j) w.0; close = go s is (across (m * up j) (down j) (2 ^ e) w.1 h) }
    where
      across : (p q r : ℕ) → p * l ≡ g * q → Close (2 ^ 54 * (g * c)) (2 ^ 54 * (a * l)) (r * (c * l)) → Close (2 ^ 54 * (p * c)) (2 ^ 54 * (a * q)) (r * (q * c))
      across p q r w h =
          let k = ap (λ (z : ℕ). z * c) w in
          (le_of_mul-le-mul_right (omega (arith, k, mul-le-mul_right q h.0)) L, le_of_mul-le-mul_right (omega (arith, k, mul-le-mul_right q h.1)) L)

      go : (s : Bool) → Signed s a u v → Close (2 ^ 54 * (m * up j * c)) (2 ^ 54 * (a * down j)) (2 ^ e * (down j * c)) → Apart (2 ^ e) (plus s (m * up j)) (minus s (m * up j)) (down j) u v c
      go false is h = rw is (omega arith)
      go true is h = rw is (omega arith)

  abbrev Result : Type 0
  Result = Rounded (round binary64 s a c) s u v c e

  scaled : 2 ^ e * c * 2 ^ 1074 ≡ 2 ^ (e + 1074) * c
  scaled = mul_right_comm (2 ^ e) c (2 ^ 1074) ∙ ap (λ (x : ℕ). x * c) (sym (pow-add 2 e 1074))

  room : {i : ℕ} → i ≤ e + 1075 → 2 ^ i < 2 ^ 2098
  room {i} h = pow-lt (most i e E h)
    where
      most : (i e : ℕ) → e ≤ 1000 → i ≤ e + 1075 → i < 2098
      most i e E h = omega arith

  -- a power of two is not rounded
  at_power : a ≡ 2 ^ e * c → Result
  at_power h = from-value (round binary64 s a c) a c C (round_exact binary64 s a c 1 (e + 1074) C (lit< tt) fine whole) (omega arith)
    where
      one : 1 * 2 ^ (e + 1074) ≡ 2 ^ (e + 1074)
      one = one-mul (2 ^ (e + 1074))

      fine : 1 * 2 ^ (e + 1074) < 2 ^ 2098
      fine = subst (λ (x : ℕ). x < 2 ^ 2098) (sym one) (room (omega arith))

      whole : a * 2 ^ 1074 ≡ 1 * 2 ^ (e + 1074) * c
      whole = ap (λ (x : ℕ). x * 2 ^ 1074) h ∙ scaled ∙ ap (λ (x : ℕ). x * c) (sym one)

  -- below it, digits are dropped that are worth 2 ^ e / 2 ^ 53 at most, and the rounding goes by half of that
  below_power : a < 2 ^ e * c → Result
  below_power h =
      from-value (round binary64 s a c) (w * 2 ^ k) (2 ^ 1074) (pow_pos 1074)
      (subst (λ (x : Float). HasValue x s (w * 2 ^ k) (2 ^ 1074)) (sym (round_is binary64 s a c)) (units_val binary64 s w k fine))
      (counted (w * 2 ^ k) (2 ^ 1021) (2 ^ e) (subst (λ (x : ℕ). Close (2 * (w * 2 ^ k * c)) (2 * n) (c * x)) (pow-add 2 e 1021) half))
    where
      n : ℕ
      n = a * 2 ^ 1074

      k : ℕ
      k = drop 53 n c

      w : ℕ
      w = kept 53 n c

      hi : n < 2 ^ (e + 1074) * c
      hi = subst (λ (x : ℕ). n < x) scaled (mul-lt-mul_of_pos_right h (pow_pos 1074))

      few : (z e : ℕ) → z ≤ e + 1074 → z - 53 ≤ e + 1021
      few z e h = omega arith

      k_le : k ≤ e + 1021
      k_le = few (size (n / c)) e (size-le (n / c) (e + 1074) ((div-lt_iff_lt-mul C).1 hi))

      wider : (w c p n r : ℕ) → Close (2 * (w * (c * p))) (2 * n) (c * p) → c * p ≤ r → Close (2 * (w * p * c)) (2 * n) r
      wider w c p n r h l = omega arith

      half : Close (2 * (w * 2 ^ k * c)) (2 * n) (c * 2 ^ (e + 1021))
      half = wider w c (2 ^ k) n (c * 2 ^ (e + 1021)) (closest_close n (c * 2 ^ k) (mul-pos C (pow_pos k))) (mul-le-mul_left c (pow_mono k_le))

      counted : (g d r : ℕ) → Close (2 * (g * c)) (2 * (a * (2 ^ 53 * d))) (c * (r * d)) → Close (2 ^ 54 * (g * c)) (2 ^ 54 * (a * (2 ^ 53 * d))) (r * (c * (2 ^ 53 * d)))
      counted g d r h = omega arith

      under : (g c n p r : ℕ) → Close (2 * (g * c)) (2 * n) r → n < p * c → r ≤ c * p → g * c < p * 2 * c
      under g c n p r h l m = omega arith

      fine : w * 2 ^ k < 2 ^ 2098
      fine =
          lt_of_lt_of_le
          (lt_of_mul-lt-mul_right c (under (w * 2 ^ k) c n (2 ^ (e + 1074)) (c * 2 ^ (e + 1021)) half hi (mul-le-mul_left c (pow_mono (omega arith)))))
          (le_of_lt (subst (λ (x : ℕ). x < 2 ^ 2098) (pow-suc 2 (e + 1074)) (room (omega arith))))

-- a fraction of at most 2 ^ e in size
pub round_close : (s : Bool) (a u v c e : ℕ) → Signed s a u v → 0 < c → e ≤ 1000 → a ≤ 2 ^ e * c → Rounded (round binary64 s a c) s u v c e
round_close s a u v c e is C E h = elim (eq-or-lt_of_le h) [ inl p ↦ at_power s a u v c e is C E p | inr l ↦ below_power s a u v c e is C E l ]
