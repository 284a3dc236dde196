-- One decimal or two. Assumes nothing.
use native.Mathlib.Omega.{arith}
use mathlib.Core.Path.{sym, ◌∙◌}
use lib.Seq.{slice}
use Rattle.stop.proofs.Digits.{digits_to-small}
use Rattle.stop.proofs.read_decimals.Goals as goal

pub overflow_mul-result : goal.overflow_mul-result
overflow_mul-result c =
    omega (arith, digits_to-small 2 (slice c.args.from c.args.to c.args.s.now) c.in_ok-d.d (sym c.decimal.ensures ∙ c.in_ok-d.was))
