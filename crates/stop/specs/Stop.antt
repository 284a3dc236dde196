-- A stop in basis points with up to two decimals, kept as hundredths: its field, its text and its double. Assumes nothing.
use Rattle.std.specs.Prelude.{ℕ, ◌+◌, ◌*◌, ◌/◌, ◌%◌, cond, List, [], ◌∷◌, ◌++◌, eqb, Float, length, Option, None, Some}
use Rattle.text.specs.Answer.{Answer, given}
use Rattle.text.specs.Number.{at_most, digits_to, decimal_of}
use Rattle.text.specs.Text.{point, split}
use Rattle.double.specs.Double.{whole, ◌÷◌}

-- ---- the field

-- how many hundredths the last of n decimals counts: 10 where it is the only one
abbrev pub unit_of : ℕ → ℕ
unit_of n = cond (eqb n 1) 10 1

-- a whole part with decimals behind it, the last of which counts u hundredths
abbrev pub together : Option ℕ → Option ℕ → ℕ → Option ℕ
together None d u = None
together (Some w) None u = None
together (Some w) (Some d) u = Some (w * 100 + d * u)

-- the parts between points: 1 to 10 digits, and where there is a point "one or two decimals after" it
abbrev pub hundredths_in : List (List ℕ) → Option ℕ
hundredths_in [] = None
hundredths_in (w ∷ []) = together (digits_to 10 w) (Some 0) 1
hundredths_in (w ∷ d ∷ []) = together (digits_to 10 w) (digits_to 2 d) (unit_of (length d))
hundredths_in (w ∷ d ∷ e ∷ ps) = None

-- the hundredths that a field says, where it has that form and they are not above hi
unfoldable pub stop_in : ℕ → List ℕ → Option ℕ
stop_in hi s = at_most hi (hundredths_in (split point s))

-- 3 where it is malformed or above hi hundredths
unfoldable pub hundredths_of : ℕ → List ℕ → Answer ℕ
hundredths_of hi s = given 3 (stop_in hi s)

-- ---- the text

-- f hundredths, below 100, behind a whole part: "without needless zeros or a bare point"
unfoldable pub decimals_text : ℕ → List ℕ
decimals_text f = cond (eqb f 0) [] (point ∷ (48 + f / 10) ∷ cond (eqb (f % 10) 0) [] ((48 + f % 10) ∷ []))

-- "The stop text prints the stop without needless zeros or a bare point": of h hundredths
unfoldable pub stop_text : ℕ → List ℕ
stop_text h = decimal_of (h / 100) ++ decimals_text (h % 100)

-- ---- the double

-- "Its double is hundredths divided by 100, rounded once."
unfoldable pub stop_double : ℕ → Float
stop_double h = whole h ÷ whole 100
