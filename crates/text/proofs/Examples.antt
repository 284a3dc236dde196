-- Worked examples of texts and numbers, computed from the definitions. Assumes nothing.
use mathlib.Core.Path.{◌≡◌, refl}
use mathlib.Core.List.{[], ◌∷◌}
use Rattle.std.specs.Prelude.{None, Some}
use lib.IntN.{pos, negsuc}
use Rattle.text.specs.Literal.{encoded, bytes}
use Rattle.text.specs.Text.{onto, split}
use Rattle.text.specs.Number.{digits_behind, natural, digits_to, i32_of, decimal_from, decimal_of, hex_of}

-- ---- an i32

with_plus : i32_of (bytes "+007") ≡ Some (pos 7)
unfolding i32_of natural digits_behind bytes encoded
with_plus = refl

minus_nothing : i32_of (bytes "-0") ≡ Some (pos 0)
unfolding i32_of natural digits_behind bytes encoded
minus_nothing = refl

highest : i32_of (bytes "2147483647") ≡ Some (pos 2147483647)
unfolding i32_of natural digits_behind bytes encoded
highest = refl

too_high : i32_of (bytes "2147483648") ≡ None
unfolding i32_of natural digits_behind bytes encoded
too_high = refl

lowest : i32_of (bytes "-2147483648") ≡ Some (negsuc 2147483647)
unfolding i32_of natural digits_behind bytes encoded
lowest = refl

too_low : i32_of (bytes "-2147483649") ≡ None
unfolding i32_of natural digits_behind bytes encoded
too_low = refl

nothing : i32_of (bytes "") ≡ None
unfolding i32_of natural digits_behind bytes encoded
nothing = refl

sign_only : i32_of (bytes "+") ≡ None
unfolding i32_of natural digits_behind bytes encoded
sign_only = refl

many-zeros : i32_of (bytes "00000000000000000012") ≡ Some (pos 12)
unfolding i32_of natural digits_behind bytes encoded
many-zeros = refl

-- ---- 1 to n digits

ten_nines : digits_to 10 (bytes "9999999999") ≡ Some 9999999999
unfolding digits_to natural digits_behind bytes encoded
ten_nines = refl

eleven : digits_to 10 (bytes "00000000001") ≡ None
unfolding digits_to natural digits_behind bytes encoded
eleven = refl

no_digits : digits_to 10 (bytes "") ≡ None
unfolding digits_to natural digits_behind bytes encoded
no_digits = refl

no_digit : digits_to 10 (bytes "1x") ≡ None
unfolding digits_to natural digits_behind bytes encoded
no_digit = refl

-- ---- plain decimal

zero-text : decimal_of 0 ≡ bytes "0"
unfolding decimal_of decimal_from bytes encoded
zero-text = refl

ten_text : decimal_of 10 ≡ bytes "10"
unfolding decimal_of decimal_from bytes encoded
ten_text = refl

greatest_text : decimal_of 18446744073709551615 ≡ bytes "18446744073709551615"
unfolding decimal_of decimal_from bytes encoded
greatest_text = refl

-- ---- the bits of a double

hundred : hex_of 16 0x4059000000000000 ≡ bytes "4059000000000000"
unfolding hex_of bytes encoded
hundred = refl

lower_case : hex_of 16 0xfff0_0000_0000_0abc ≡ bytes "fff0000000000abc"
unfolding hex_of bytes encoded
lower_case = refl

-- ---- parts

empty-part : split 95 (bytes "a__b") ≡ bytes "a" ∷ [] ∷ bytes "b" ∷ []
unfolding split onto bytes encoded
empty-part = refl

one-part : split 95 (bytes "") ≡ [] ∷ []
unfolding split onto bytes encoded
one-part = refl

two_bytes : bytes "é" ≡ 0xc3 ∷ 0xa9 ∷ []
unfolding bytes encoded
two_bytes = refl
