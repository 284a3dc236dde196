-- `bar::Instant::seconds_to` meets its contract: the difference and the quotient fit. Assumes nothing.
use native.Mathlib.Omega.{arith}
use Rattle.std.proofs.lemmas.Int.{ints}
use Rattle.bar.specs.Time.{seconds_between}
use Rattle.bar.proofs.Instant.seconds_to.Goals as goal

pub returns : goal.returns
unfolding seconds_between
returns c = (grind (arith, ints), grind (arith, ints))
