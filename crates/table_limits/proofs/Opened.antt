-- Opens every definition of `table_limits` and of what it leans on, for examples that compute. Assumes nothing.
use Rattle.sheet.proofs.Opened.{opened as opened-sheet}
use Rattle.table_words.proofs.Opened.{opened as opened-words}
use Rattle.table_limits.specs.Fine.{fine_clause, fine_event, all_clauses, clause_weight, clauses_weight, events_weight, weight, names_weight, fine_sheet}

unfoldable pub opened : Unit {0}
unfolding opened-sheet opened-words fine_clause fine_event all_clauses clause_weight clauses_weight events_weight weight names_weight fine_sheet
opened = tt
