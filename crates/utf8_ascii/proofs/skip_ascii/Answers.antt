-- `utf8_ascii::skip_ascii` meets its contract. The loop has passed i..j. Assumes nothing.
use Rattle.utf8.proofs.Laws.{passed_start, passed_ascii}
use Rattle.utf8_ascii.proofs.skip_ascii.Goals as goal

pub loop-j-init : goal.loop-j-init
loop-j-init c = passed_start _ _ c.requires

pub loop-j-preserved : goal.loop-j-preserved
loop-j-preserved c = passed_ascii c.loop-j.invariant c.loop-j-test.true c.if-s-j-gt127.false
