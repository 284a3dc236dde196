-- Opens every definition of `table_words` and of what it leans on, for examples that compute. Assumes nothing.
use Rattle.signal.proofs.Opened.{opened as opened-signal}
use Rattle.table_words.specs.Words.{clean, word_ok, distinct, less, ascending, ranked, ordered}

unfoldable pub opened : Unit {0}
unfolding opened-signal clean word_ok distinct less ascending ranked ordered
opened = tt
