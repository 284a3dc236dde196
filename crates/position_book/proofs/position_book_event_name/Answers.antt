-- The length of the name, and the bytes of the buffer. Assumes nothing.
use Rattle.position_book.proofs.Results.{name-is}
use Rattle.position_book.proofs.position_book_event_name.Goals as goal

pub returns : goal.returns
returns c = name-is c.ranges.index c.event_name.ensures c.name_answer.ensures
