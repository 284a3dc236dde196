-- The values of the row, and the bytes of the buffer. Assumes nothing.
use Rattle.position_book.proofs.Results.{pair_is}
use Rattle.position_book.proofs.position_book_pair_row.Goals as goal

pub returns : goal.returns
returns c = pair_is c.ranges.index c.pair_row.ensures c.pair_answer.ensures
