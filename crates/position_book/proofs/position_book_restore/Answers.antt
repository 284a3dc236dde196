-- The number and the bytes of the book. Assumes nothing.
use Rattle.position_book.proofs.Results.{store_is}
use Rattle.position_book.proofs.position_book_restore.Goals as goal

pub returns : goal.returns
returns c = store_is c.restore.ensures c.stored_number.ensures
