-- Opens every definition of `table_check_words` and of what it leans on, for examples that compute. Assumes nothing.
use Rattle.table.proofs.Opened.{opened as opened-table}
use Rattle.table_check_words.specs.Check.{laid, ranks_from}

unfoldable pub opened : Unit {0}
unfolding opened-table laid ranks_from
opened = tt
