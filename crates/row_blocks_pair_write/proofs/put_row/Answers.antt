-- The two halves of its numbers, then its texts. Assumes nothing.
use Rattle.row_blocks_pair_write.proofs.Row.{row_put}
use Rattle.row_blocks_pair_write.proofs.put_row.Goals as goal

pub returns : goal.returns
returns c =
    row_put c.put_trade.ensures c.put_figures.ensures c.put_part.ensures
