-- `Looked` is the invariant: the first LF of the bytes looked at so far. Assumes nothing.
use Rattle.revise_line.proofs.Blocks.{looked_start, looked_more, looked_end}
use Rattle.revise_line.proofs.lf_block.Goals as goal

pub loop-k-init : goal.loop-k-init
loop-k-init c = looked_start _ _

pub loop-k-preserved : goal.loop-k-preserved
loop-k-preserved c =
    looked_more c.loop-k.invariant c.loop-k-test.true c.place.ensures c.min-first.ensures

pub returns : goal.returns
returns c = looked_end c.loop-k.invariant c.loop-k-test.false
