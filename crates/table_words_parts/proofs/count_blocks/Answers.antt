-- `table_words_parts::count_blocks` meets its contract: `Blocks`, how many underscores the first j blocks have, is the invariant. Assumes nothing.
use Rattle.table_words_parts.proofs.Count.{blocks_first, blocks_more, blocks_many, blocks_last}
use Rattle.table_words_parts.proofs.count_blocks.Goals as goal

pub loop-j-init : goal.loop-j-init
loop-j-init c = blocks_first _ _ c.requires

pub returns-then-limit-c : goal.returns-then-limit-c
returns-then-limit-c c =
    blocks_many c.loop-j.invariant c.loop-j-test.true c.count_block-c.ensures c.if-limit-c.true

pub loop-j-preserved : goal.loop-j-preserved
loop-j-preserved c =
    blocks_more c.loop-j.invariant c.loop-j-test.true c.count_block-c.ensures

pub returns : goal.returns
returns c = blocks_last c.loop-j.invariant c.loop-j-test.false _
