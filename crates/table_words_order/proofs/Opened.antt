-- Opens every definition of `table_words_order` and of what it leans on, for examples that compute. Assumes nothing.
use Rattle.table_words.proofs.Opened.{opened as opened-words}
use Rattle.table_words_order.specs.Read.{order_of}

unfoldable pub opened : Unit {0}
unfolding opened-words order_of
opened = tt
