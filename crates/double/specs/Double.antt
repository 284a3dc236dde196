-- Doubles: binary64 of IEEE 754. "Every double operation rounds once, left to right." Assumes nothing.
use Rattle.std.specs.Prelude.{ℕ, ◌+◌, ◌*◌, ◌/◌, Bool, true, false, not, cond, eqb, ℤ, pos, Float}
use Rattle.std.specs.Float.{nan, inf, fin, binary64}
use Rattle.std.specs.Float.Ieee.{is_nan, up, down, round, neg, sub, mul, div, lt, of_int}
use Rattle.double.specs.declared.Yield.{Yield}
use Rattle.double.specs.declared.Yield.TheVariants.{Absent, Bp}
use Rattle.double.specs.declared.Side.{Side}
use Rattle.double.specs.declared.Side.TheVariants.{Long, Short}

-- a whole number as a double
abbrev pub whole : ℕ → Float
whole n = of_int binary64 (pos n)

infixl 50 ◌−◌
abbrev pub ◌−◌ : Float → Float → Float
x − y = sub binary64 x y

infixl 60 ◌×ᶠ◌
abbrev pub ◌×ᶠ◌ : Float → Float → Float
x ×ᶠ y = mul binary64 x y

infixl 60 ◌÷◌
abbrev pub ◌÷◌ : Float → Float → Float
x ÷ y = div binary64 x y

-- 0 or -0
abbrev pub is_zero : Float → Bool
is_zero nan = false
is_zero (inf s) = false
is_zero (fin s m e) = eqb m 0

-- n / d + 1 / 2, cut to a whole number
abbrev pub half : ℕ → ℕ → ℕ
half n d = (2 * n + d) / (2 * d)

-- "rounded to a whole number where ties go away from zero (sign kept, -0.3 gives -0; infinities stay)"
unfoldable pub round_away : Float → Float
round_away nan = nan
round_away (inf s) = inf s
round_away (fin s m e) = round binary64 s (half (m * up e) (down e)) 1

-- the gain of p over q as a share of q: "close/open - 1 for L, 1 - close/open for S"
unfoldable pub gain : Side → Float → Float → Float
gain Long p q = p ÷ q − whole 1
gain Short p q = whole 1 − p ÷ q

-- "If the previous hold's price > 0, its yield becomes (price/its price - 1) × 10000."
unfoldable pub hold_yield : Float → Float → Yield
hold_yield own next = cond (lt (whole 0) own) (Bp (gain Long next own ×ᶠ whole 10000)) Absent

-- "absent if the opening price is 0 or -0; else close/open - 1 for L, 1 - close/open for S, × 10000, × 100, rounded .., / 100"
unfoldable pub pair_yield : Side → Float → Float → Yield
pair_yield side opening closing =
    cond (is_zero opening) Absent (Bp (round_away (gain side closing opening ×ᶠ whole 10000 ×ᶠ whole 100) ÷ whole 100))

-- a yield that is no NaN
abbrev pub yield_ok : Yield → Bool
yield_ok Absent = true
yield_ok (Bp x) = not (is_nan x)

-- "price/reference - 1 < -stop/10000", and the same with 1 - price/reference for the short side; the stop is a double of basis points
unfoldable pub stop_hit : Side → Float → Float → Float → Bool
stop_hit side stop reference price = lt (gain side price reference) (neg stop ÷ whole 10000)

-- "days (elapsed whole seconds/86400 as doubles)"
unfoldable pub days_of : ℤ → Float
days_of seconds = of_int binary64 seconds ÷ whole 86400
