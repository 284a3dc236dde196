-- `double::stop_hit` meets its contract. Assumes nothing.
use Rattle.double.specs.Double.{stop_hit}
use Rattle.double.proofs.Constants.{scale_is}
use Rattle.double.proofs.stop_hit.Goals as goal

pub returns : goal.returns
unfolding stop_hit
returns c = rw (c.gain.ensures, scale_is)
