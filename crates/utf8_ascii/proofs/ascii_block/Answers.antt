-- `utf8_ascii::ascii_block` meets its contract. The loop has counted the ASCII bytes of the first k, and where they all are such they are passed. Assumes nothing.
use native.Mathlib.Omega.{arith}
use Rattle.utf8_ascii.proofs.Ascii.{block_start, block_more}
use Rattle.utf8_ascii.proofs.ascii_block.Goals as goal

pub loop-k-init : goal.loop-k-init
loop-k-init c = block_start _ _ c.requires

pub loop-k-preserved : goal.loop-k-preserved
loop-k-preserved c = block_more c.loop-k.invariant _ c.requires (omega arith) (omega arith)
