-- The nine places, one behind another. Assumes nothing.
use Rattle.table_layout.specs.Build.{places_bytes}
use Rattle.table_write_rows.proofs.Joined.{◌then◌}
use Rattle.table_write_head.proofs.put_places.Goals as goal

pub returns : goal.returns
unfolding places_bytes
returns c =
    c.put_row_places-p.ensures then c.put_four-p.ensures then c.put_four-p-2.ensures then c.put_four-p-3.ensures then c.put_four-p-4.ensures then c.put_four.ensures
