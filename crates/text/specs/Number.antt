-- Numbers in texts, read and written. Assumes nothing.
use Rattle.std.specs.Prelude.{ℕ, zero, suc, ◌+◌, ◌-◌, ◌*◌, ◌/◌, ◌%◌, ◌^◌, Bool, cond, ◌&&◌, List, [], ◌∷◌, leb, ltb, eqb, ℤ, pos, negsuc, neg_ℤ, length, Option, None, Some}
use Rattle.text.specs.Answer.{Answer, given}

abbrev pub within : ℕ → ℕ → ℕ → Bool
within lo hi x = leb lo x && leb x hi

-- one digit more behind a value
abbrev pub digit : ℕ → Option ℕ → Option ℕ
digit x None = None
digit x (Some v) = cond (within 48 57 x) (Some (v * 10 + (x - 48))) None

unfoldable pub digits_behind : Option ℕ → List ℕ → Option ℕ
digits_behind v [] = v
digits_behind v (x ∷ t) = digits_behind (digit x v) t

-- one or more decimal digits
unfoldable pub natural : List ℕ → Option ℕ
natural [] = None
natural (x ∷ t) = digits_behind (Some 0) (x ∷ t)

-- a number that is not above hi
abbrev pub at_most : ℕ → Option ℕ → Option ℕ
at_most hi None = None
at_most hi (Some v) = cond (leb v hi) (Some v) None

-- 1 to n decimal digits
unfoldable pub digits_to : ℕ → List ℕ → Option ℕ
digits_to n s = cond (leb (length s) n) (natural s) None

-- "Unsigned fields are 1 to 10 decimal digits": 3 where one is malformed or above hi
unfoldable pub unsigned : ℕ → List ℕ → Answer ℕ
unsigned hi s = given 3 (at_most hi (digits_to 10 s))

abbrev pub plus : Option ℕ → Option ℤ
plus None = None
plus (Some v) = Some (pos v)

abbrev pub negated : Option ℕ → Option ℤ
negated None = None
negated (Some v) = Some (neg_ℤ (pos v))

-- "an optional + or -, then one or more digits, fitting i32"
unfoldable pub i32_of : List ℕ → Option ℤ
i32_of [] = None
i32_of (x ∷ t) =
    cond (eqb x 43) (plus (at_most 0x7fff_ffff (natural t)))
    (cond (eqb x 45) (negated (at_most 0x8000_0000 (natural t))) (plus (at_most 0x7fff_ffff (natural (x ∷ t)))))

-- 1 to n decimal digits, "perhaps after `-`"
unfoldable pub signed_to : ℕ → List ℕ → Option ℤ
signed_to n [] = None
signed_to n (x ∷ t) = cond (eqb x 45) (negated (digits_to n t)) (plus (digits_to n (x ∷ t)))

-- plain decimal: n has at most k digits, written in front of l
unfoldable pub decimal_from : ℕ → ℕ → List ℕ → List ℕ
decimal_from zero n l = l
decimal_from (suc k) n l = let more = decimal_from k (n / 10) ((48 + n % 10) ∷ l) in cond (ltb n 10) ((48 + n) ∷ l) more

-- "numbers in plain decimal"
unfoldable pub decimal_of : ℕ → List ℕ
decimal_of n = decimal_from (suc n) n []

-- with a `-` in front where it is below 0
unfoldable pub integer_of : ℤ → List ℕ
integer_of (pos n) = decimal_of n
integer_of (negsuc n) = 45 ∷ decimal_of (suc n)

-- a digit below 16: 0 to 9, then a to f
abbrev pub hex_digit : ℕ → ℕ
hex_digit d = cond (ltb d 10) (48 + d) (87 + d)

-- the k lowest hexadecimal digits of n, the highest first: "16 lower-case hexadecimal digits of bits" with k = 16
unfoldable pub hex_of : ℕ → ℕ → List ℕ
hex_of zero n = []
hex_of (suc k) n = hex_digit (n / 16 ^ k % 16) ∷ hex_of k n

-- the value of a hexadecimal digit
abbrev pub hex_value : ℕ → Option ℕ
hex_value x = cond (within 48 57 x) (Some (x - 48)) (cond (within 97 102 x) (Some (x - 87)) None)

-- one hexadecimal digit more behind a value
abbrev pub hex_next : Option ℕ → Option ℕ → Option ℕ
hex_next None d = None
hex_next (Some v) None = None
hex_next (Some v) (Some d) = Some (v * 16 + d)

unfoldable pub hex_digits : Option ℕ → List ℕ → Option ℕ
hex_digits v [] = v
hex_digits v (x ∷ t) = hex_digits (hex_next v (hex_value x)) t

-- "16 lower-case hexadecimal digits of bits", read
unfoldable pub bits_of : List ℕ → Option ℕ
bits_of s = cond (eqb (length s) 16) (hex_digits (Some 0) s) None
