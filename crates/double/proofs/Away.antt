-- A double, by the fields of its bits, is rounded as the definition says, ties away from zero. Assumes nothing.
use Prim.Native.Nat.{ℕ, zero, suc, ◌+◌, ◌-◌, ◌*◌, ◌/◌, ◌%◌, ◌^◌, ◌≤◌, ◌<◌}
use native.Mathlib.Nat.{pow-suc, mul_comm, mul_assoc, mul_left_comm, mul_right_comm, add-mul, mul-one, mul-pos, div-eq_of_lt, add-div_right, div-div-eq-div-mul, mul-div-mul_left, eq_of_mul-eq-mul_right, lt_of_lt_of_le, le_of_lt}
use native.Mathlib.Omega.{arith}
use mathlib.Core.Path.{◌≡◌, refl, sym, ap, ap₂, ◌∙◌, subst}
use mathlib.Core.Bool.{Bool, true, false, not, cond}
use lib.IntN.{pos}
use lib.Dec.{T, eqb, ltb, leb, lit<, lit≤}
use lib.Arith.{digits_div}
use lib.Pow.{pow_pos, pow_mono, pow-add, shl_lt}
use borrow.Author.Tests.{lt-ltb, le-ltb, ne_eqb, eq-eqb, eqb-true, eqb-false, ltb-true, ltb-false, lt-leb, le-leb}
use lib.Ieee.{Float, Format, nan, inf, fin, binary64, up, down, low, prec, emax, round, units, odd, neg, fits, is_nan, of_fields, of_bits, to_bits, of_int}
use lib.Ieee.Bits.{of_bits-to_bits}
use lib.Ieee.Exact.{HasValue, odd_sign, round_exact}
use lib.Ieee.Nearest.{div_same}
use lib.Ieee.Fits.{down_pos, odd-fits, round-fits, round_is}
use lib.Ieee.Back.{whole_unique}
use Rattle.double.specs.Double.{half, round_away}
use Rattle.double.specs.Read.{near}

-- ---- `half` sees only the value of its fraction

same_half : (n d a c : ℕ) → 0 < d → 0 < c → n * c ≡ a * d → half n d ≡ half a c
same_half n d a c D C h = div_same (2 * n + d) (2 * d) (2 * a + c) (2 * c) (omega arith) (omega arith) cross
  where
    four : (x y : ℕ) → 2 * x * (2 * y) ≡ 4 * (x * y)
    four x y = rw (mul_assoc 2 x (2 * y), mul_left_comm x 2 y) (omega arith)

    cross : (2 * n + d) * (2 * c) ≡ (2 * a + c) * (2 * d)
    cross = rw (add-mul (2 * n) d (2 * c), add-mul (2 * a) c (2 * d), four n c, four a d, mul_left_comm d 2 c, mul_left_comm c 2 d, mul_comm d c) (omega arith)

zero-half : (a c : ℕ) → 2 * a < c → half a c ≡ 0
zero-half a c h = div-eq_of_lt (omega arith)

pub round_away_of : (x : Float) (s : Bool) (a c : ℕ) → 0 < c → HasValue x s a c → round_away x ≡ round binary64 s (half a c) 1
unfolding round_away
round_away_of nan s a c C h = absurd h
round_away_of (inf t) s a c C h = absurd h
round_away_of (fin t m e) s a c C h = ap₂ (λ (u : Bool) (n : ℕ). round binary64 u n 1) h.0 (same_half (m * up e) (down e) a c (down_pos e) C h.1)

-- ---- below 1/2, from 1/2 to 2 ^ 52, and above

mid : (q j k : ℕ) → j + suc k ≡ 1074 → half (q * 2 ^ j) (2 ^ 1074) ≡ (q / 2 ^ k + 1) / 2
mid q j k e =
    same_half (q * 2 ^ j) (2 ^ 1074) q (2 * p) (pow_pos 1074) (mul-pos (lit< tt) (pow_pos k)) (mul_assoc q (2 ^ j) (2 * p) ∙ ap (λ (x : ℕ). q * x) (sym L))
    ∙ ap₂ ◌/◌ (two q p) refl
    ∙ mul-div-mul_left (q + p) (2 * p) (lit< tt)
    ∙ ap (λ (x : ℕ). (q + p) / x) (mul_comm 2 p)
    ∙ sym (div-div-eq-div-mul (q + p) p 2)
    ∙ ap (λ (x : ℕ). x / 2) (add-div_right q (pow_pos k))
  where
    p : ℕ
    p = 2 ^ k

    two : (x y : ℕ) → 2 * x + 2 * y ≡ 2 * (x + y)
    two x y = omega arith

    L : 2 ^ 1074 ≡ 2 ^ j * (2 * 2 ^ k)
    L = ap (λ (n : ℕ). 2 ^ n) (sym e) ∙ pow-add 2 j (suc k) ∙ ap (λ (x : ℕ). 2 ^ j * x) (pow-suc 2 k ∙ mul_comm (2 ^ k) 2)

-- (w * c) / c, rounded, is w
whole-half : (w c : ℕ) → 0 < c → half (w * c) c ≡ w
whole-half w c C = ap (λ (x : ℕ). (x + c) / (2 * c)) (mul_left_comm 2 w c) ∙ digits_div w (omega arith)

lead : (t : ℕ) → t < 2 ^ 52 → 2 ^ 52 + t < 2 ^ 53
lead t h = omega arith

-- ---- fields with an exponent below 1075

-- an exponent's field that is not all ones
plain : (s : Bool) (j t : ℕ) → (suc j ≡ 2047 → ⊥) → of_fields binary64 s (suc j) t ≡ odd 53 s (2 ^ 52 + t) j 1074
unfolding of_fields
plain s j t h = rw (ne_eqb (suc j) 2047 h)

pub low_near : (e t : ℕ) → e < 1022 → near e t ≡ 0
unfolding near
low_near e t h = rw (lt-ltb e 1022 h)

pub high-near : (e t : ℕ) → 1022 ≤ e → near e t ≡ ((2 ^ 52 + t) / 2 ^ (1074 - e) + 1) / 2
unfolding near
high-near e t h = rw (le-ltb e 1022 h)

-- 2 * a is below 2 ^ 1074 where a is below 2 ^ i with i ≤ 1073
under : (a i : ℕ) → a < 2 ^ i → i ≤ 1073 → 2 * a < 2 ^ 1074
under a i h k = go a (2 ^ 1073) (2 ^ 1074) (lt_of_lt_of_le h (pow_mono k)) (pow-suc 2 1073)
  where
    go : (a p q : ℕ) → a < p → q ≡ p * 2 → 2 * a < q
    go a p q h e = omega arith

pub small : (s : Bool) (e t : ℕ) → e < 1075 → t < 2 ^ 52 → round_away (of_fields binary64 s e t) ≡ round binary64 s (near e t) 1
unfolding of_fields
small s zero t h k =
    round_away_of (odd 53 s t 0 1074) s (t * 2 ^ 0) (2 ^ 1074) (pow_pos 1074) (odd_sign 53 s t 0 1074)
    ∙ ap (λ (n : ℕ). round binary64 s n 1) (zero-half (t * 2 ^ 0) (2 ^ 1074) (under (t * 2 ^ 0) (52 + 0) (shl_lt 52 0 k) (lit≤ tt)) ∙ sym (low_near 0 t (lit< tt)))
small s (suc j) t h k =
    ap round_away (plain s j t (ne j h))
    ∙ round_away_of (odd 53 s (2 ^ 52 + t) j 1074) s ((2 ^ 52 + t) * 2 ^ j) (2 ^ 1074) (pow_pos 1074) (odd_sign 53 s (2 ^ 52 + t) j 1074)
    ∙ ap (λ (n : ℕ). round binary64 s n 1) (go (ltb (suc j) 1022) refl)
  where
    ne : (j : ℕ) → suc j < 1075 → suc j ≡ 2047 → ⊥
    ne j h e = omega arith

    low-room : (j : ℕ) → suc j < 1022 → 53 + j ≤ 1073
    low-room j h = omega arith

    rest : (j : ℕ) → suc j < 1075 → j + suc (1074 - suc j) ≡ 1074
    rest j h = omega arith

    go : (b : Bool) → ltb (suc j) 1022 ≡ b → half ((2 ^ 52 + t) * 2 ^ j) (2 ^ 1074) ≡ near (suc j) t
    go true e =
        let l : suc j < 1022 = ltb-true (suc j) 1022 e in
        zero-half ((2 ^ 52 + t) * 2 ^ j) (2 ^ 1074) (under ((2 ^ 52 + t) * 2 ^ j) (53 + j) (shl_lt 53 j (lead t k)) (low-room j l)) ∙ sym (low_near (suc j) t l)
    go false e = mid (2 ^ 52 + t) j (1074 - suc j) (rest j h) ∙ sym (high-near (suc j) t (ltb-false (suc j) 1022 e))

-- ---- from 1075 on a number is whole, or an infinity

scale_down : (x : Float) (s : Bool) (w c : ℕ) → 0 < c → HasValue x s (w * c) c → HasValue x s w 1
scale_down nan s w c C h = h
scale_down (inf t) s w c C h = h
scale_down (fin t m e) s w c C h = (h.0, mul-one (m * up e) ∙ eq_of_mul-eq-mul_right c C (m * up e) (w * down e) (h.1 ∙ mul_right_comm w c (down e)))

split : (q i : ℕ) → q * 2 ^ i * 2 ^ 1074 ≡ q * 2 ^ (i + 1074)
split q i = mul_assoc q (2 ^ i) (2 ^ 1074) ∙ ap (λ (x : ℕ). q * x) (sym (pow-add 2 i 1074))

whole_round : (s : Bool) (q i : ℕ) → q < 2 ^ 53 → i + 53 ≤ 1024 → round binary64 s (q * 2 ^ i) 1 ≡ odd 53 s q (i + 1074) 1074
whole_round s q i h k =
    whole_unique binary64 (round binary64 s (q * 2 ^ i) 1) (odd 53 s q (i + 1074) 1074) s (q * 2 ^ i)
    (round-fits binary64 s (q * 2 ^ i) 1)
    (odd-fits binary64 53 s q (i + 1074) h (le_of_lt h) fine)
    (round_exact binary64 s (q * 2 ^ i) 1 q (i + 1074) (lit< tt) h fine (split q i ∙ sym (mul-one (q * 2 ^ (i + 1074)))))
    (scale_down (odd 53 s q (i + 1074) 1074) s (q * 2 ^ i) (2 ^ 1074) (pow_pos 1074) (subst (λ (a : ℕ). HasValue (odd 53 s q (i + 1074) 1074) s a (2 ^ 1074)) (sym (split q i)) (odd_sign 53 s q (i + 1074) 1074)))
  where
    room : (i : ℕ) → i + 53 ≤ 1024 → 53 + (i + 1074) ≤ 2098
    room i h = omega arith

    fine : q * 2 ^ (i + 1074) < 2 ^ 2098
    fine = lt_of_lt_of_le (shl_lt 53 (i + 1074) h) (pow_mono (room i k))

high : (s : Bool) (q i : ℕ) → q < 2 ^ 53 → i + 53 ≤ 1024 → round_away (odd 53 s q (i + 1074) 1074) ≡ odd 53 s q (i + 1074) 1074
high s q i h k =
    round_away_of (odd 53 s q (i + 1074) 1074) s (q * 2 ^ (i + 1074)) (2 ^ 1074) (pow_pos 1074) (odd_sign 53 s q (i + 1074) 1074)
    ∙ ap (λ (n : ℕ). round binary64 s n 1) (ap (λ (a : ℕ). half a (2 ^ 1074)) (sym (split q i)) ∙ whole-half (q * 2 ^ i) (2 ^ 1074) (pow_pos 1074))
    ∙ whole_round s q i h k

top : (s : Bool) (j t : ℕ) → suc j ≡ 2047 → of_fields binary64 s (suc j) t ≡ cond (eqb t 0) (inf s) nan
unfolding of_fields
top s j t h = rw (eq-eqb (suc j) 2047 h)

stays : (b s : Bool) → T (not (is_nan (cond b (inf s) nan))) → round_away (cond b (inf s) nan) ≡ cond b (inf s) nan
unfolding round_away is_nan
stays true s n = refl
stays false s n = absurd n

pub large : (s : Bool) (e t : ℕ) → 1075 ≤ e → e < 2048 → t < 2 ^ 52 → T (not (is_nan (of_fields binary64 s e t))) → round_away (of_fields binary64 s e t) ≡ of_fields binary64 s e t
large s zero t h l k n = absurd (no h)
  where
    no : 1075 ≤ 0 → ⊥
    no h = omega arith
large s (suc j) t h l k n = go (eqb (suc j) 2047) refl
  where
    i : ℕ
    i = j - 1074

    j_is : (j : ℕ) → 1075 ≤ suc j → j - 1074 + 1074 ≡ j
    j_is j h = omega arith

    room : (j : ℕ) → suc j < 2048 → (suc j ≡ 2047 → ⊥) → j - 1074 + 53 ≤ 1024
    room j l ne = omega arith

    go : (b : Bool) → eqb (suc j) 2047 ≡ b → round_away (of_fields binary64 s (suc j) t) ≡ of_fields binary64 s (suc j) t
    go true e =
        let E : of_fields binary64 s (suc j) t ≡ cond (eqb t 0) (inf s) nan = top s j t (eqb-true (suc j) 2047 e) in
        rw E (stays (eqb t 0) s (subst (λ (x : Float). T (not (is_nan x))) E n))
    go false e =
        let ne = eqb-false (suc j) 2047 e in
        rw (plain s j t ne) (subst (λ (a : ℕ). round_away (odd 53 s (2 ^ 52 + t) a 1074) ≡ odd 53 s (2 ^ 52 + t) a 1074) (j_is j h) (high s (2 ^ 52 + t) (j - 1074) (lead t k) (room j l ne)))

-- ---- a double, by its bits

neg_odd : (d q k l : ℕ) → neg (odd d false q k l) ≡ odd d true q k l
unfolding neg odd
neg_odd d zero k l = refl
neg_odd d (suc q) k l = refl

neg_units : (f : Format) (q k : ℕ) → neg (units f false q k) ≡ units f true q k
unfolding units neg
neg_units f q k = go (ltb (q * 2 ^ k) (2 ^ (low f + suc (emax f))))
  where
    go : (b : Bool) → neg (cond b (odd (suc (prec f)) false q k (low f)) (inf false)) ≡ cond b (odd (suc (prec f)) true q k (low f)) (inf true)
    go true = neg_odd (suc (prec f)) q k (low f)
    go false = refl

neg_round : (f : Format) (n d : ℕ) → neg (round f false n d) ≡ round f true n d
neg_round f n d = ap neg (round_is f false n d) ∙ neg_units f _ _ ∙ sym (round_is f true n d)

abbrev pub field : ℕ → ℕ
field b = b % 2 ^ 63 / 2 ^ 52

field_lt : (b : ℕ) → b % 9223372036854775808 / 4503599627370496 < 2048
field_lt b = omega arith

digits_lt : (b : ℕ) → b % 4503599627370496 < 4503599627370496
digits_lt b = omega arith

read : (n : ℕ) → of_bits binary64 n ≡ of_fields binary64 (leb (2 ^ 63) n) (field n) (n % 2 ^ 52)
unfolding of_bits
read n = refl

module _ (x : Float) (F : T (fits binary64 x)) where
  abbrev b : ℕ
  b = to_bits binary64 x

  is : x ≡ of_fields binary64 (leb (2 ^ 63) b) (field b) (b % 2 ^ 52)
  is = sym (of_bits-to_bits binary64 x F) ∙ read (to_bits binary64 x)

  pub kept : T (not (is_nan x)) → 1075 ≤ field b → x ≡ round_away x
  kept n h =
      is
      ∙ sym (large (leb (2 ^ 63) b) (field b) (b % 2 ^ 52) h (field_lt b) (digits_lt b) (subst (λ (y : Float). T (not (is_nan y))) is n))
      ∙ sym (ap round_away is)

  rounded : field b < 1075 → round binary64 (leb (2 ^ 63) b) (near (field b) (b % 2 ^ 52)) 1 ≡ round_away x
  rounded h = sym (ap round_away is ∙ small (leb (2 ^ 63) b) (field b) (b % 2 ^ 52) h (digits_lt b))

  pub plus : (n : ℕ) → n ≡ near (field b) (b % 2 ^ 52) → field b < 1075 → b < 2 ^ 63 → of_int binary64 (pos n) ≡ round_away x
  unfolding of_int
  plus n e h s = ap₂ (λ (t : Bool) (k : ℕ). round binary64 t k 1) (sym (lt-leb (2 ^ 63) b s)) e ∙ rounded h

  pub minus : (n : ℕ) → n ≡ near (field b) (b % 2 ^ 52) → field b < 1075 → 2 ^ 63 ≤ b → neg (of_int binary64 (pos n)) ≡ round_away x
  unfolding of_int
  minus n e h s = neg_round binary64 n 1 ∙ ap₂ (λ (t : Bool) (k : ℕ). round binary64 t k 1) (sym (le-leb (2 ^ 63) b s)) e ∙ rounded h
