-- `utf8_common::skip_common` meets its contract. The loop has passed i..j. Assumes nothing.
use Rattle.utf8.proofs.Laws.{passed_start, passed_on}
use Rattle.utf8_common.proofs.skip_common.Goals as goal

pub loop-j-init : goal.loop-j-init
loop-j-init c = passed_start _ _ c.requires

pub loop-j-preserved : goal.loop-j-preserved
loop-j-preserved c = passed_on c.loop-j.invariant c.common_block-r.ensures
