-- How many rows there are and how long, and the bytes of the buffer. Assumes nothing.
use Rattle.row_blocks.specs.Blocks.{pair_block_do}
use Rattle.position_book.proofs.Results.{block_is}
use Rattle.position_book.proofs.position_book_pair_rows.Goals as goal

pub returns : goal.returns
returns c =
    block_is c.ranges.first (λ z. pair_block_do c.args.table.now c.args.book.now z c.args.rows.now) c.pair_rows.ensures c.block_answer.ensures
