-- `event_signals::read_lines` meets its contract: `Reading`, some lines are read, is the invariant. Assumes nothing.
use Rattle.event_signals.proofs.Adding.{reading-last}
use Rattle.event_signals.proofs.read_lines.Goals as goal

pub returns : goal.returns
returns c = reading-last c.loop-at.invariant c.loop-at-test.false
