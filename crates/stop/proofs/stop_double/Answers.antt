-- `stop::stop_double` meets its contract. Assumes nothing.
use Prim.Native.Nat.{◌^◌}
use mathlib.Core.Path.{ap}
use lib.IntN.{pos}
use lib.Ieee.{binary64, div, of_int, in_float}
use lib.Dec.{le→leb}
use Rattle.double.proofs.Constants.{hundred_is}
use Rattle.stop.specs.Stop.{stop_double}
use Rattle.stop.proofs.stop_double.Goals as goal

pub int_to_float-result : goal.int_to_float-result
unfolding in_float
int_to_float-result c = le→leb c.args.h (2 ^ 53) c.requires

pub returns : goal.returns
unfolding stop_double
returns c = ap (div binary64 (of_int binary64 (pos c.args.h))) hundred_is
