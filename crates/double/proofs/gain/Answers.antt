-- `double::gain` meets its contract. Assumes nothing.
use Rattle.double.specs.Double.{gain}
use Rattle.double.proofs.Constants.{one-is}
use Rattle.double.proofs.gain.Goals as goal

pub returns-in-Long : goal.returns-in-Long
unfolding gain
returns-in-Long c = rw (c.in-Long.is, one-is)

pub returns-in-Short : goal.returns-in-Short
unfolding gain
returns-in-Short c = rw (c.in-Short.is, one-is)
