-- Opens every definition of `text` and of what it leans on, for examples that compute. Assumes nothing.
use mathlib.Core.List.{flat_map}
use Rattle.text.specs.Conditions.{all_of, every, any_of}
use Rattle.text.specs.Literal.{encoded, bytes}
use Rattle.text.specs.Number.{digits_behind, natural, digits_to, unsigned, i32_of, signed_to, decimal_from, decimal_of, integer_of, hex_of, hex_digits, bits_of}
use Rattle.text.specs.Text.{same, has, begins, onto, split, joined, each_line}

unfoldable pub opened : Unit {0}
unfolding flat_map all_of every any_of encoded bytes digits_behind natural digits_to unsigned i32_of signed_to decimal_from decimal_of integer_of hex_of hex_digits bits_of same has begins onto split joined each_line
opened = tt
