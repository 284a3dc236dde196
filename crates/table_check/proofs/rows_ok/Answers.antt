-- `table_check::rows_ok` meets its contract. Assumes nothing.
use mathlib.Core.Path.{◌∙◌}
use Rattle.table_check.proofs.Parts.{names_lent, rows-events, rows-clauses}
use Rattle.table_check.proofs.rows_ok.Goals as goal

pub events_ok-requires-clause-names_value : goal.events_ok-requires-clause-names_value
events_ok-requires-clause-names_value c = names_lent c.requires.headed c.requires.t_value

pub returns-then-events_ok : goal.returns-then-events_ok
returns-then-events_ok c = rows-clauses c.requires.headed c.events_ok.ensures c.if-events_ok.true c.clauses_ok.ensures

pub returns-else-events_ok : goal.returns-else-events_ok
returns-else-events_ok c = c.if-events_ok.false ∙ rows-events c.requires.headed c.events_ok.ensures c.if-events_ok.false
