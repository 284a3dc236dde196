-- Opens every definition of `table_wordbook` and of what it leans on, for examples that compute. Assumes nothing.
use Rattle.list.proofs.Opened.{opened as opened-list}
use Rattle.table_words_order.proofs.Opened.{opened as opened-words}
use Rattle.table_wordbook.specs.Wordbook.{number_of, words_at}

unfoldable pub opened : Unit {0}
unfolding opened-list opened-words number_of words_at
opened = tt
