-- `text::find` meets its contract: `Finding` is the invariant. Assumes nothing.
use Rattle.text.proofs.Search.{finding_hit, finding_miss, finding_last}
use Rattle.text.proofs.find.Goals as goal

pub returns-then-s-i : goal.returns-then-s-i
returns-then-s-i c = finding_hit c.loop-i.invariant c.loop-i-test.true c.if-s-i.true

pub loop-i-preserved : goal.loop-i-preserved
loop-i-preserved c = finding_miss c.loop-i.invariant c.loop-i-test.true c.if-s-i.false

pub returns : goal.returns
returns c = finding_last c.loop-i.invariant c.loop-i-test.false
