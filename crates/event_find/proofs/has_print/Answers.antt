-- `event_find::has_print` meets its contract: `Counting` is the invariant. Assumes nothing.
use borrow.Author.Tests.{ltb-false}
use Rattle.event_find.proofs.Others.{counting_start, counting_more, counting_end}
use Rattle.event_find.proofs.has_print.Goals as goal

pub loop-k-init : goal.loop-k-init
loop-k-init c = counting_start _ _ _

pub loop-k-preserved : goal.loop-k-preserved
loop-k-preserved c = counting_more c.loop-k.invariant c.loop-k-test.true c.from-count.ensures

pub returns : goal.returns
returns c e = counting_end c.loop-k.invariant c.loop-k-test.false (ltb-false _ _ e)
