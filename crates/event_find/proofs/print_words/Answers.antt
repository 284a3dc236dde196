-- `event_find::print_words` meets its contract: `Printing` is the invariant. Assumes nothing.
use Rattle.event_find.proofs.Prints.{printing-first, printing-word, printing-end}
use Rattle.event_find.proofs.print_words.Goals as goal

pub loop-i-init : goal.loop-i-init
loop-i-init c = printing-first c.requires

pub loop-i-preserved : goal.loop-i-preserved
loop-i-preserved c =
    printing-word c.loop-i.invariant c.loop-i-test.true c.get_u32.ensures c.mix-h.ensures

pub returns : goal.returns
returns c = printing-end c.loop-i.invariant c.loop-i-test.false
