-- What eight bytes hold: a double, or a NaN's pattern. Assumes nothing.
use Rattle.std.specs.Prelude.{ℕ, cond, Option, Some, None, Float}
use Rattle.std.specs.Float.{binary64}
use Rattle.std.specs.Float.Ieee.{nan_bits, of_bits}

-- of the eight bytes' number
unfoldable pub real_of : ℕ → Option Float
real_of b = cond (nan_bits binary64 b) None (Some (of_bits binary64 b))
