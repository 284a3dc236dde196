-- Opens every definition of `double` and of IEEE arithmetic, for examples that compute. Assumes nothing.
use lib.Count.{count_trailing_zeros}
use lib.Ieee.{span, climb, size, odd, units, round, neg, sum, add, sub, mul, div, lt, eq, le, of_int, to_unsigned, to_signed, is_nan, of_fields, of_bits, nan_bits, to_bits}
use Rattle.double.specs.Double.{round_away, gain, hold_yield, pair_yield, stop_hit, days_of}

unfoldable pub opened : Unit {0}
unfolding span climb size odd units round neg sum add sub mul div lt eq le of_int to_unsigned to_signed is_nan of_fields of_bits nan_bits to_bits count_trailing_zeros round_away gain hold_yield pair_yield stop_hit days_of
opened = tt
