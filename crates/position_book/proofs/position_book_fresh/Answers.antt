-- The number and the bytes of a fresh book. Assumes nothing.
use Rattle.position_book.proofs.Results.{store_is}
use Rattle.position_book.proofs.position_book_fresh.Goals as goal

pub returns : goal.returns
returns c = store_is c.fresh.ensures c.stored_number.ensures
