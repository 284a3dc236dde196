-- `table_words::lacks` meets its contract: `Meeting`, whether x was met, is the invariant. Assumes nothing.
use Rattle.table_words.proofs.Meeting.{meeting_first, meeting_more, meeting_last}
use Rattle.table_words.proofs.lacks.Goals as goal

pub loop-i-init : goal.loop-i-init
loop-i-init c = meeting_first _ _

pub loop-i-preserved : goal.loop-i-preserved
loop-i-preserved c = meeting_more c.loop-i.invariant c.loop-i-test.true c.met-m.ensures

pub returns : goal.returns
returns c = meeting_last c.loop-i.invariant c.loop-i-test.false
