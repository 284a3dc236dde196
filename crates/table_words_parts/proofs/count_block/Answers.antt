-- `table_words_parts::count_block` meets its contract: `Block`, how many of the first k bytes are underscores, is the invariant. Assumes nothing.
use Rattle.table_words_parts.proofs.Count.{block_first, block_more, block_last}
use Rattle.table_words_parts.proofs.count_block.Goals as goal

pub loop-k-init : goal.loop-k-init
loop-k-init c = block_first _ _

pub loop-k-preserved : goal.loop-k-preserved
loop-k-preserved c =
    block_more c.loop-k.invariant c.loop-k-test.true c.requires c.one-c.ensures

pub returns : goal.returns
returns c = block_last c.loop-k.invariant c.loop-k-test.false
