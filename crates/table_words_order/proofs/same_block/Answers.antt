-- `table_words_order::same_block` meets its contract: `Block`, whether the first k bytes are the same, is the invariant. Assumes nothing.
use Rattle.table_words_order.proofs.Level.{block_first, block_more, block_last}
use Rattle.table_words_order.proofs.same_block.Goals as goal

pub loop-k-init : goal.loop-k-init
loop-k-init c = block_first _ _ _ c.requires.i_in_bounds c.requires.i_in_bounds_2

pub loop-k-preserved : goal.loop-k-preserved
loop-k-preserved c =
    block_more c.loop-k.invariant c.loop-k-test.true c.requires.i_in_bounds c.requires.i_in_bounds_2

pub returns : goal.returns
returns c = block_last c.loop-k.invariant c.loop-k-test.false
