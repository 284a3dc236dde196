-- What the feed of a line says, and the bytes of the book. Assumes nothing.
use Rattle.position_book.proofs.Results.{fed-is}
use Rattle.position_book.proofs.position_book_feed_line.Goals as goal

pub returns : goal.returns
returns c = fed-is c.feed_line.ensures c.feed_answer.ensures
