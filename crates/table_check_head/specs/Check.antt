-- What the check of a header knows on its way. Assumes nothing.
use Rattle.std.specs.Prelude.{◌*◌, ◌≤◌}
use Rattle.sheet.specs.Sheet.{event_limit, clause_limit, name_limit}
use Rattle.table.specs.declared.Counts.{Counts}

-- the counts are in range
pub record Few (c : Counts) : Type 0 where
  pub events : c.events ≤ event_limit
  pub clauses : c.clauses ≤ clause_limit
  pub keys : c.keys ≤ clause_limit
  pub values : c.values ≤ 3 * clause_limit
  pub name : c.name ≤ name_limit
  pub symbol : c.symbol ≤ name_limit
