-- The sums of years and of months, worked out without counting. Assumes nothing.
use mathlib.Core.Path.{◌≡◌, refl, ◌∙◌}
use mathlib.Core.Bool.{Bool, true, false, cond, ◌&&◌, and-eq-true_iff}
use Prim.Native.Nat.{ℕ, zero, suc, ◌+◌, ◌-◌, ◌*◌, ◌/◌, ◌≤◌, ◌<◌}
use native.Mathlib.Omega.{arith}
use native.Mathlib.Decide.{dec_le}
use lib.Dec.{eqb}
use borrow.Author.Tests.{eqb-true}
use Rattle.calendar.specs.Calendar.{leap_year, month_length, months_before, years_before, month_first, Month}

-- two functions agree at each number below n: one test
agree : (ℕ → ℕ) → (ℕ → ℕ) → ℕ → Bool
agree f g zero = true
agree f g (suc n) = eqb (f n) (g n) && agree f g n

at : (f g : ℕ → ℕ) (n : ℕ) → agree f g n ≡ true → (k : ℕ) → k < n → f k ≡ g k
unfolding agree
at f g zero t k h = absurd (omega arith)
at f g (suc n) t k h =
    let both = (and-eq-true_iff (eqb (f n) (g n)) (agree f g n)).0 t in
    elim (dec_le n k) [ yes l ↦ (let e : k ≡ n = omega arith in rw e (eqb-true (f n) (g n) both.0)) | no l ↦ at f g n both.1 k (omega arith) ]

-- years that are both leap years, or both none, have the same months
alike : (a b : ℕ) → leap_year a ≡ leap_year b → (k : ℕ) → months_before a k ≡ months_before b k
unfolding months_before month_length
alike a b e zero = refl
alike a b e (suc k) = rw (e, alike a b e k)

-- so what holds of 1970 and of 1972 holds of every year
by_leap : (k : ℕ) (f : Bool → ℕ) → months_before 1970 k ≡ f false → months_before 1972 k ≡ f true → (y : ℕ) → months_before y k ≡ f (leap_year y)
unfolding leap_year
by_leap k f plain leap y = go (leap_year y) refl
  where
    go : (b : Bool) → leap_year y ≡ b → months_before y k ≡ f b
    go false e = alike y 1970 e k ∙ plain
    go true e = alike y 1972 e k ∙ leap

-- the leap day of a year, if there is one
abbrev leap_day : Bool → ℕ
leap_day b = cond b 1 0

year_length : (y : ℕ) → months_before y 12 ≡ 365 + leap_day (leap_year y)
unfolding months_before month_length leap_year
year_length y = by_leap 12 (λ (b : Bool). 365 + leap_day b) refl refl y

-- the days of a year before month j from March on
abbrev from_march : Bool → ℕ → ℕ
from_march b j = 59 + leap_day b + (153 * j + 2) / 5

march : (j : ℕ) → j < 10 → (y : ℕ) → months_before y (2 + j) ≡ from_march (leap_year y) j
unfolding agree months_before month_length leap_year
march j h =
    by_leap (2 + j) (λ (b : Bool). from_march b j)
    (at (λ (j : ℕ). months_before 1970 (2 + j)) (from_march false) 10 refl j h)
    (at (λ (j : ℕ). months_before 1972 (2 + j)) (from_march true) 10 refl j h)

-- each fourth year from 1972 to 2099 has a leap day
leap_days : (k : ℕ) → k < 130 → suc k / 4 + leap_day (leap_year (1970 + k)) ≡ suc (suc k) / 4
unfolding agree leap_year
leap_days = at (λ (k : ℕ). suc k / 4 + leap_day (leap_year (1970 + k))) (λ (k : ℕ). suc (suc k) / 4) 130 refl

-- the days of the first k years
pub years : (k : ℕ) → k ≤ 130 → years_before k ≡ 365 * k + suc k / 4
unfolding years_before
years zero h = refl
years (suc k) h = omega (arith, years k (omega arith), year_length (1970 + k), leap_days k h)

module _ {y m : ℕ} (r : Month y m) where
  -- the days of the years before, and the leap days with this year's
  before_year : years_before (y - 1970) ≡ 365 * (y - 1970) + (y - 1969) / 4
  before_year =
      let e : y - 1969 ≡ suc (y - 1970) = omega arith in
      rw e (years (y - 1970) (omega arith))

  with_year : (y - 1969) / 4 + leap_day (leap_year y) ≡ (y - 1968) / 4
  with_year =
      let z : 1970 + (y - 1970) ≡ y = omega arith in
      let a : y - 1969 ≡ suc (y - 1970) = omega arith in
      let b : y - 1968 ≡ suc (suc (y - 1970)) = omega arith in
      rw (a, b) (rw z at (leap_days (y - 1970) (omega arith)))

  pub early : m ≤ 2 → 365 * (y - 1970) + (y - 1969) / 4 + 31 * (m - 1) ≡ month_first y m
  unfolding month_first months_before month_length
  early h =
      let months : months_before y (m - 1) ≡ 31 * (m - 1) =
      elim (dec_le m 1) [
        | yes l ↦ (let e : m - 1 ≡ 0 = omega arith in rw e)
        | no l ↦ (let e : m - 1 ≡ 1 = omega arith in rw e)
      ] in
      omega (arith, before_year, months)

  pub late : 2 < m → 365 * (y - 1970) + (y - 1968) / 4 + 59 + (153 * (m - 3) + 2) / 5 ≡ month_first y m
  unfolding month_first
  late h =
      let e : 2 + (m - 3) ≡ m - 1 = omega arith in
      omega (arith, before_year, with_year, rw e at (march (m - 3) (omega arith) y))
