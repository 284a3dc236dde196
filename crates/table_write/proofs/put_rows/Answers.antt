-- The rows of the events and of the clauses, one behind another. Assumes nothing.
use Rattle.table_write_rows.proofs.Joined.{◌then◌}
use Rattle.table_write.proofs.put_rows.Goals as goal

pub returns : goal.returns
returns c =
    c.put_events-p.ensures then c.put_clauses.ensures
