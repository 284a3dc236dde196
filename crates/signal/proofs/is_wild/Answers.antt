-- The byte string is the wildcard. Assumes nothing.
use Rattle.text.specs.Literal.{bytes, encoded}
use Rattle.signal.specs.Signal.{wildcard}
use Rattle.signal.proofs.is_wild.Goals as goal

pub returns : goal.returns
unfolding wildcard bytes encoded
returns c = c.part_eq.ensures
