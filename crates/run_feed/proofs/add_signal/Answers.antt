-- The line goes behind the signals of the bar that waits. Assumes nothing.
use mathlib.Core.Path.{refl}
use Rattle.run_feed.proofs.Lines.{none-waits, bar-waits}
use Rattle.run_feed.proofs.add_signal.Goals as goal

pub returns-then-is_none : goal.returns-then-is_none
returns-then-is_none c = (refl, refl, none-waits _ c.is_none.ensures c.if-is_none.true)

pub returns : goal.returns
returns c = (record { waiting = refl; at = refl; put = c.put_part-n.ensures }, bar-waits _ c.is_none.ensures c.if-is_none.false)
