-- The places of the rows, one behind another. Assumes nothing.
use Rattle.table_write_rows.proofs.Joined.{◌then◌}
use Rattle.table_write_head.proofs.put_row_places.Goals as goal

pub returns : goal.returns
returns c =
    c.put_four-p.ensures then c.put_four-p-2.ensures then c.put_four-p-3.ensures then c.put_four.ensures
