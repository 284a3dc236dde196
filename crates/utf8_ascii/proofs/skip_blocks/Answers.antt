-- `utf8_ascii::skip_blocks` meets its contract. The loop has passed i..j. Assumes nothing.
use mathlib.Core.Path.{refl}
use Rattle.utf8.proofs.Laws.{passed_start, passed_on}
use Rattle.utf8_ascii.proofs.skip_blocks.Goals as goal

pub loop-j-init : goal.loop-j-init
loop-j-init c = passed_start _ _ c.requires

pub loop-j-preserved : goal.loop-j-preserved
loop-j-preserved c = passed_on c.loop-j.invariant (c.if-ascii_block.ensures refl)
