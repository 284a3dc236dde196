-- `event_find::fingerprint` meets its contract: behind the words, `PrintingEnd` is the invariant. Assumes nothing.
use Rattle.event_find.proofs.Prints.{printing_byte, printing-last}
use Rattle.event_find.proofs.fingerprint.Goals as goal

pub loop-i-init : goal.loop-i-init
loop-i-init c = c.print_words-p.ensures

pub loop-i-preserved : goal.loop-i-preserved
loop-i-preserved c =
    printing_byte c.loop-i.invariant c.loop-i-test.true c.wide.ensures.0 c.mix-h.ensures

pub returns : goal.returns
returns c = printing-last c.loop-i.invariant c.loop-i-test.false
