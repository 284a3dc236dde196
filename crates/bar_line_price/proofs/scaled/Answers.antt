-- `bar_line_price::scaled` meets its contract: both numbers are below 2 ^ 53, so that only the quotient is rounded. Assumes nothing.
use Prim.Native.Nat.{◌^◌}
use native.Mathlib.Nat.{pow-le-pow_right}
use native.Mathlib.Omega.{arith}
use mathlib.Core.Path.{ap}
use lib.Dec.{le→leb}
use lib.Ieee.{in_float}
use Rattle.double.specs.Double.{whole, ◌÷◌}
use Rattle.bar_line_price.proofs.scaled.Goals as goal

pub int_to_float-result : goal.int_to_float-result
unfolding in_float
int_to_float-result c = le→leb c.args.v (2 ^ 53) (omega arith)

pub int_to_float-result-2 : goal.int_to_float-result-2
unfolding in_float
int_to_float-result-2 c =
    le→leb c.power.result (2 ^ 53) (omega (arith, pow-le-pow_right {n = 10} (omega arith) {i = c.args.k} {j = 6} c.requires.1))

pub returns : goal.returns
returns c = ap (λ n. whole c.args.v ÷ whole n) c.power.ensures
