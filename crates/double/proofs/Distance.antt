-- A hold's yield lies within 1/2^38 basis point of the exact one. It is rounded three times, and each rounding goes by at most what `Rounding` says:
-- the quotient by 2 / 2^54, what it is above or below 1 by 2 / 2^54, and that times 10000 by 2^14 / 2^54. In all 10000 × 2 + 10000 × 2 + 2^14 = 56384
-- of 1 / 2^54, and 1 / 2^38 is 65536 of them. Assumes nothing.
use Prim.Native.Nat.{ℕ, suc, ◌-◌, ◌*◌, ◌≤◌, ◌<◌, zero}
use native.Mathlib.Nat.{mul-one, mul-pos}
use native.Mathlib.Omega.{arith}
use mathlib.Core.Bool.{Bool, true, false}
use mathlib.Core.Path.{◌≡◌, refl}
use lib.Dec.{ltb, ltb→lt, lit≤, eqb-suc-zero}
use lib.IntN.{ℤ, pos, ◌-ℤ◌, ◌*ℤ◌}
use borrow.Author.Tests.{lt-ltb, ltb-true, ltb-false}
use lib.Ieee.{Float, nan, inf, fin, binary64, up, down, round, neg, sum, add, sub, mul, div, lt, of_int}
use lib.Ieee.Fits.{up_pos, down_pos}
use Rattle.double.specs.Double.{whole, ◌−◌, ◌×ᶠ◌, ◌÷◌, gain, hold_yield}
use Rattle.double.specs.Distance.{Near, with_sign, Within, Within38}
use Rattle.double.proofs.Apart.{Apart, triangle, less_1, times, Signed, plus, minus, signed, times_signed, most, exact, near}
use Rattle.double.proofs.Rounding.{Rounded, round_close}

-- ---- each operation is one rounding of a fraction

-- the quotient
quotient : (m n : ℕ) (i d : ℤ) → 0 < n → fin false m i ÷ fin false n d ≡ round binary64 false (m * up i * down d) (n * up d * down i)
unfolding div
quotient m (suc n) i d h = rw (eqb-suc-zero n)
quotient m zero i d h = elim h [ ]

-- less 1: ±w / q is p / q - 1
record Less (m : ℕ) (j : ℤ) : Type 0 where
  s : Bool
  w : ℕ
  is : fin false m j − whole 1 ≡ round binary64 s w (down j)
  signed : Signed s w (m * up j) (down j)

less : (m : ℕ) (j : ℤ) → Less m j
unfolding sub add sum neg of_int
less m j = go (ltb (m * up j * 1) (1 * down j)) refl
  where
    go : (t : Bool) → ltb (m * up j * 1) (1 * down j) ≡ t → Less m j
    go true e = let h = ltb-true (m * up j * 1) (1 * down j) e in record { s = true; w = 1 * down j - m * up j * 1; is = rw (e, mul-one (down j)); signed = omega arith }
    go false e = let h = ltb-false (m * up j * 1) (1 * down j) e in record { s = false; w = m * up j * 1 - 1 * down j; is = rw (e, mul-one (down j)); signed = omega arith }

-- times 10000
times_10000 : (s : Bool) (m : ℕ) (j : ℤ) → fin s m j ×ᶠ whole 10000 ≡ round binary64 s (m * up j * 10000) (down j)
unfolding mul of_int
times_10000 true m j = rw (mul-one (down j))
times_10000 false m j = rw (mul-one (down j))

-- ---- the three roundings together

-- y is a number within 1 / 2 ^ 38 of (b / a - 1) × 10000
record Found (y : Float) (a b : ℕ) : Type 0 where
  s : Bool
  m : ℕ
  j : ℤ
  is : y ≡ fin s m j
  close : Near 38 (with_sign s (m * up j)) (down j) ((pos b -ℤ pos a) *ℤ pos 10000) a

module _ (a b : ℕ) (A : 0 < a) (h : b ≤ 2 * a) where
  first : Rounded (round binary64 false b a) false b 0 a 1
  first = round_close false b b 0 a 1 (omega arith) A (lit≤ tt) h

  abbrev p1 : ℕ
  p1 = first.m * up first.j

  abbrev q1 : ℕ
  q1 = down first.j

  first_close : Apart 2 p1 q1 q1 b a a
  first_close = less_1 first.close

  l : Less first.m first.j
  l = less first.m first.j

  abbrev s : Bool
  s = l.s

  second : Rounded (round binary64 s l.w q1) s p1 q1 q1 1
  second = round_close s l.w p1 q1 q1 1 l.signed (down_pos first.j) (lit≤ tt) (omega (arith, most s l.w l.signed first_close h A))

  abbrev p2 : ℕ
  p2 = second.m * up second.j

  abbrev q2 : ℕ
  q2 = down second.j

  second_close : Apart 4 (plus s p2) (minus s p2) q2 b a a
  second_close = triangle (down_pos first.j) second.close first_close

  third : Rounded (round binary64 s (p2 * 10000) q2) s (plus s p2 * 10000) (minus s p2 * 10000) q2 14
  third =
      round_close s (p2 * 10000) (plus s p2 * 10000) (minus s p2 * 10000) q2 14 (times_signed s p2 (plus s p2) (minus s p2) 10000 (signed s p2)) (down_pos second.j) (lit≤ tt)
      (omega (arith, most s p2 (signed s p2) second_close h A))

  found : Found ((round binary64 false b a − whole 1) ×ᶠ whole 10000) a b
  found = record {
    s = s;
    m = third.m;
    j = third.j;
    is = rw (first.is, l.is, second.is, times_10000 s second.m second.j) third.is;
    close = rw (exact a b 10000) (near s (third.m * up third.j) (lit≤ tt) (triangle (down_pos second.j) third.close (times 10000 second_close)));
  }

-- ---- the yield of a hold

positive_price : (n : ℕ) (d : ℤ) → 0 < n → lt (whole 0) (fin false n d) ≡ true
unfolding lt of_int
positive_price n d h = lt-ltb (0 * down d) (n * up d * 1) (omega (arith, mul-pos h (up_pos d)))

within : (n m : ℕ) (d i : ℤ) → 0 < n → m * up i * down d ≤ 2 * (n * up d * down i) → Within 38 (fin false n d) (fin false m i) (hold_yield (fin false n d) (fin false m i))
unfolding Within hold_yield gain
within n m d i N h =
    let f = found (n * up d * down i) (m * up i * down d) (mul-pos (mul-pos N (up_pos d)) (down_pos i)) h in
    rw (positive_price n d N, quotient m n i d N, f.is) f.close

-- (that the new price is at least half the old is not needed)
pub within_38 : Within38
within_38 nan new h = absurd h.from
within_38 (inf t) new h = absurd h.from
within_38 (fin true n d) new h = absurd h.from
within_38 (fin false n d) nan h = absurd h.to
within_38 (fin false n d) (inf t) h = absurd h.to
within_38 (fin false n d) (fin true m i) h = absurd h.to
within_38 (fin false n d) (fin false m i) h = within n m d i (ltb→lt 0 n h.from) h.at_most_twice
