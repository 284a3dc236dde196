-- The calendar's laws: what a day that there is says of its parts, and that days are counted upwards. Assumes nothing.
use mathlib.Core.Path.{◌≡◌}
use mathlib.Core.Bool.{true, ◌&&◌, and-eq-true_iff}
use Prim.Native.Nat.{ℕ, zero, suc, ◌+◌, ◌-◌, ◌≤◌, ◌<◌}
use native.Mathlib.Omega.{arith}
use lib.Dec.{leb}
use borrow.Author.Tests.{leb-true}
use Rattle.text.specs.Number.{within}
use Rattle.calendar.proofs.Forms.{years}
use Rattle.calendar.specs.Calendar.{month_length, months_before, years_before, month_first, day_number, real_day, Month}

-- what a day that there is says of its parts
pub record Day (y m d : ℕ) : Type 0 where
  pub month : Month y m
  pub begun : 1 ≤ d
  pub inside : d ≤ month_length y m

held : (lo hi x : ℕ) → within lo hi x ≡ true → (lo ≤ x) × (x ≤ hi)
held lo hi x e =
    let both = (and-eq-true_iff (leb lo x) (leb x hi)).0 e in
    (leb-true lo x both.0, leb-true x hi both.1)

pub day_parts : (y m d : ℕ) → real_day y m d ≡ true → Day y m d
unfolding real_day
day_parts y m d e =
    let a = (and-eq-true_iff (within 1970 2099 y && within 1 12 m) (within 1 (month_length y m) d)).0 e in
    let b = (and-eq-true_iff (within 1970 2099 y) (within 1 12 m)).0 a.0 in
    let year = held 1970 2099 y b.0 in
    let month = held 1 12 m b.1 in
    let day = held 1 (month_length y m) d a.1 in
    record {
      month = record { from = year.0; to = year.1; first = month.0; last = month.1 };
      begun = day.0;
      inside = day.1;
    }

-- the days of more months are not fewer
grows : (y i n : ℕ) → months_before y i ≤ months_before y (i + n)
unfolding months_before
grows y i zero = let e : i + 0 ≡ i = omega arith in rw e (omega arith)
grows y i (suc n) =
    let e : i + suc n ≡ suc (i + n) = omega arith in
    rw e (omega (arith, grows y i n))

month_end : (y m : ℕ) → 1 ≤ m → months_before y (m - 1) + month_length y m ≡ months_before y m
unfolding months_before
month_end y zero h = absurd (omega arith)
month_end y (suc k) h = let e : suc k - 1 ≡ k = omega arith in rw e

year_end : (y : ℕ) → 1970 ≤ y → years_before (y - 1970) + months_before y 12 ≡ years_before (suc (y - 1970))
unfolding years_before
year_end y h = let e : 1970 + (y - 1970) ≡ y = omega arith in rw e

-- no month ends after the 47,482 days of these years
month_below : {y m : ℕ} → Month y m → month_first y m + month_length y m ≤ 47_482
unfolding month_first
month_below {y} {m} r =
    let e : m + (12 - m) ≡ 12 = omega arith in
    omega (
      arith,
      month_end y m r.first,
      rw e at (grows y m (12 - m)),
      year_end y r.from,
      years (suc (y - 1970)) (omega arith),
    )

-- each of them is among these
pub day_below : {y m d : ℕ} → Day y m d → day_number y m d < 47_482
unfolding day_number
day_below r = omega (arith, month_below r.month, r.begun, r.inside)
