-- The Gregorian calendar from 1970 on, and the number of a day, counted from 1970-01-01, which is day 0. Assumes nothing.
use Rattle.std.specs.Prelude.{ℕ, zero, suc, ◌+◌, ◌-◌, ◌%◌, ◌≤◌, Bool, cond, not, ◌&&◌, ◌||◌, eqb}
use Rattle.text.specs.Number.{within}

-- every fourth year is a leap year, save the hundredth ones, of which every four hundredth is one
unfoldable pub leap_year : ℕ → Bool
leap_year y = eqb (y % 4) 0 && (not (eqb (y % 100) 0) || eqb (y % 400) 0)

-- February has 28 days, 29 in a leap year; April, June, September and November have 30; the others 31
unfoldable pub month_length : ℕ → ℕ → ℕ
month_length y m = cond (eqb m 2) (cond (leap_year y) 29 28) (cond (eqb m 4 || eqb m 6 || eqb m 9 || eqb m 11) 30 31)

-- the days of the first k months of a year
unfoldable pub months_before : ℕ → ℕ → ℕ
months_before y zero = 0
months_before y (suc k) = months_before y k + month_length y (suc k)

-- the days of the k years from 1970 on: a year is its twelve months
unfoldable pub years_before : ℕ → ℕ
years_before zero = 0
years_before (suc k) = years_before k + months_before (1970 + k) 12

-- "the day number of each month's first": the days before it, of the whole years and of the whole months of its year
unfoldable pub month_first : ℕ → ℕ → ℕ
month_first y m = years_before (y - 1970) + months_before y (m - 1)

-- the number of a day: the days before it
unfoldable pub day_number : ℕ → ℕ → ℕ → ℕ
day_number y m d = month_first y m + (d - 1)

-- a real day of the "years 1970 to 2099"
unfoldable pub real_day : ℕ → ℕ → ℕ → Bool
real_day y m d = within 1970 2099 y && within 1 12 m && within 1 (month_length y m) d

-- a month of those years
pub record Month (y m : ℕ) : Type 0 where
  pub from : 1970 ≤ y
  pub to : y ≤ 2099
  pub first : 1 ≤ m
  pub last : m ≤ 12
