-- Opens every definition of `table_check_clauses` and of what it leans on, for examples that compute. Assumes nothing.
use Rattle.table.proofs.Opened.{opened as opened-table}
use Rattle.table_check_clauses.specs.Check.{use_next, code_next, values_next, clause_step}

unfoldable pub opened : Unit {0}
unfolding opened-table use_next code_next values_next clause_step
opened = tt
