-- `utf8_text::valid` meets its contract. The loop has passed the bytes before i. Assumes nothing.
use Rattle.utf8.proofs.Laws.{passed_on, passed_char, passed_wrong, passed_all}
use Rattle.utf8_text.proofs.valid.Goals as goal

pub loop-i-preserved : goal.loop-i-preserved
loop-i-preserved c = passed_on (passed_char c.loop-i.invariant c.in-Some.ensures) c.skip_common-i-in-loop-i.ensures

pub returns-in_default : goal.returns-in_default
returns-in_default c = passed_wrong c.loop-i.invariant c.in_default.ensures

pub returns : goal.returns
returns c = passed_all c.loop-i.invariant c.loop-i-test.false
