-- The number and the bytes of the image. Assumes nothing.
use Rattle.position_book.proofs.Results.{store_is}
use Rattle.position_book.proofs.position_book_save.Goals as goal

pub returns : goal.returns
returns c = store_is c.save.ensures c.stored_number.ensures
