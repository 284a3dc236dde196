-- A line of the exchange's comma file: "`id,YYYY-MM-DD HH:MM:SS+HH:MM,price`, one line a bar, lent without its LF". 16, 17, or the four numbers
-- that it says. Assumes nothing.
use Rattle.std.specs.Prelude.{ℕ, ◌+◌, ◌*◌, ◌^◌, Bool, not, cond, ◌&&◌, List, [], leb, eqb, ℤ, pos, neg_ℤ, ◌-ℤ◌, ◌*ℤ◌, Float, length, get_or}
use Rattle.std.proofs.Math.Seq.{slice}
use Rattle.text.specs.Answer.{Answer, Refused, Got, ◌>>=◌, must, given}
use Rattle.text.specs.Conditions.{any_of}
use Rattle.text.specs.Number.{natural, at_most, digits_to}
use Rattle.text.specs.Text.{point, empty, split, joined}
use Rattle.double.specs.Double.{whole, ◌÷◌}
use Rattle.calendar.specs.Calendar.{real_day, day_number}
use Rattle.bar.specs.declared.BarNumbers.{BarNumbers}
use Rattle.bar_line.specs.declared.Stamp.{Stamp}

abbrev pub comma : ℕ
comma = 44

abbrev pub hyphen : ℕ
hyphen = 45

abbrev pub space : ℕ
space = 32

abbrev pub colon : ℕ
colon = 58

abbrev pub plus_sign : ℕ
plus_sign = 43

-- ---- "YYYY-MM-DD HH:MM:SS+HH:MM": numbers and marks, each at its place

-- n digits from `at` on, all of which are there: the text has 25 bytes
abbrev pub digits_at : List ℕ → ℕ → ℕ → Answer ℕ
digits_at s at n = given 16 (digits_to n (slice at (at + n) s))

-- two digits from `at` on, of a number not above hi
abbrev pub pair_at : List ℕ → ℕ → ℕ → Answer ℕ
pair_at s at hi = given 16 (at_most hi (digits_to 2 (slice at (at + 2) s)))

-- the byte b at its place
abbrev pub mark : List ℕ → ℕ → ℕ → Answer (Unit {0})
mark s at b = must 16 (eqb (get_or s at 0) b)

-- "YYYY-MM-DD", a real day of the "years 1970 to 2099, .. leap days included": its number
unfoldable pub date_of : List ℕ → Answer ℕ
date_of s = do
  y ← digits_at s 0 4
  _ ← mark s 4 hyphen
  m ← digits_at s 5 2
  _ ← mark s 7 hyphen
  d ← digits_at s 8 2
  _ ← must 16 (real_day y m d)
  Got (day_number y m d)

-- "HH:MM", "at most 23:59": minutes
unfoldable pub minutes_of : List ℕ → ℕ → Answer ℕ
minutes_of s at = do
  h ← pair_at s at 23
  _ ← mark s (at + 2) colon
  m ← pair_at s (at + 3) 59
  Got (h * 60 + m)

-- "HH:MM:SS": seconds from midnight; "second 60 is none"
unfoldable pub clock_of : List ℕ → Answer ℕ
clock_of s = do
  m ← minutes_of s 11
  _ ← mark s 16 colon
  x ← pair_at s 17 59
  Got (m * 60 + x)

-- "the offset's sign + or -": seconds
abbrev pub signed_by : ℕ → ℕ → Answer ℤ
signed_by sign n = cond (eqb sign plus_sign) (Got (pos n)) (cond (eqb sign hyphen) (Got (neg_ℤ (pos n))) (Refused 16))

-- "+HH:MM", the seconds that the wall clock is ahead of UTC
unfoldable pub offset_of : List ℕ → Answer ℤ
offset_of s = do
  m ← minutes_of s 20
  signed_by (get_or s 19 0) (m * 60)

-- the instant at which a wall clock that is ahead of UTC by the offset has these seconds from 1970
unfoldable pub instant_at : ℕ → ℤ → ℤ
instant_at seconds offset = (pos seconds -ℤ offset) *ℤ pos 1_000_000

unfoldable pub stamp_of : List ℕ → Answer Stamp
stamp_of s = do
  _ ← must 16 (eqb (length s) 25)
  day ← date_of s
  _ ← mark s 10 space
  seconds ← clock_of s
  offset ← offset_of s
  Got (record { instant = instant_at (day * 86_400 + seconds) offset; offset = offset })

-- ---- the price

-- the number that its digits write, how many they are, and how many of them stand behind the point
pub record Decimal : Type 0 where
  pub value : ℕ
  pub digits : ℕ
  pub behind : ℕ

-- "unsigned digits, then perhaps a point and more digits"
unfoldable pub decimal_in : List ℕ → Answer Decimal
decimal_in s = do
  let parts = split point s
  let digits = joined [] parts
  _ ← must 16 (leb (length parts) 2 && not (any_of empty parts))
  n ← given 16 (natural digits)
  Got (record { value = n; digits = length digits; behind = length (get_or parts 1 []) })

-- "at most 15 in all and six after the point; its double is the whole digits divided by a power of ten, rounded once"; "17 when a price has
-- more digits"
unfoldable pub double_of : Decimal → Answer Float
double_of d = do
  _ ← must 17 (leb d.digits 15 && leb d.behind 6)
  Got (whole d.value ÷ whole (10 ^ d.behind))

unfoldable pub price_of : List ℕ → Answer Float
price_of s = decimal_in s >>= double_of

-- ---- the line

-- "16 when a line departs from that form or names no real day or time ..; 17 when a price has more digits, checked after 16": the price is the
-- last to be read, so that all of the line is judged by then
unfoldable pub line_of : List ℕ → Answer BarNumbers
line_of line = do
  let fields = split comma line
  _ ← must 16 (eqb (length fields) 3)
  id ← given 16 (digits_to 10 (get_or fields 0 []))
  at ← stamp_of (get_or fields 1 [])
  price ← price_of (get_or fields 2 [])
  Got (record { id = pos id; instant = at.instant; offset = at.offset; price = price })
