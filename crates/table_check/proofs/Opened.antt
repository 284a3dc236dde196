-- Opens every definition of `table_check` and of what it leans on, for examples that compute. Assumes nothing.
use Rattle.table.proofs.Opened.{opened as opened-table}
use Rattle.table_check_texts.specs.Check.{texts_ok}
use Rattle.table_check.specs.Check.{rows_ok, vocabulary_ok}

unfoldable pub opened : Unit {0}
unfolding opened-table texts_ok rows_ok vocabulary_ok
opened = tt
