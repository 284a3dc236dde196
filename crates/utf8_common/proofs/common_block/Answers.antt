-- `utf8_common::common_block` meets its contract. The loop has looked at i..k; where no byte was odd, the last two tell how the block ends. Assumes nothing.
use native.Mathlib.Omega.{arith}
use Rattle.utf8.proofs.Laws.{passed_start}
use Rattle.utf8_common.proofs.Common.{counted_start, counted-more}
use Rattle.utf8_common.proofs.common_block.Goals as goal

pub loop-k-init : goal.loop-k-init
loop-k-init c =
    counted_start _ _ c.requires c.odd.ensures c.odd-2.ensures

pub loop-k-preserved : goal.loop-k-preserved
loop-k-preserved c =
    counted-more c.loop-k.invariant c.requires c.loop-k-test.true c.odd-odds.ensures

pub returns-then-odds-gt0 : goal.returns-then-odds-gt0
returns-then-odds-gt0 c = passed_start _ _ (omega arith)
