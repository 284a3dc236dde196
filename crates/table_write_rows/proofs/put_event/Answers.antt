-- The six numbers of an event, one behind another. Assumes nothing.
use Rattle.table_layout.specs.Build.{event_bytes}
use Rattle.table_write_rows.proofs.Joined.{◌then◌}
use Rattle.table_write_rows.proofs.put_event.Goals as goal

pub returns : goal.returns
unfolding event_bytes
returns c =
    c.put_two-p.ensures then c.put_two-p-2.ensures then c.put_two-p-3.ensures then c.put_two-p-4.ensures then c.put_two-p-5.ensures then c.put_two.ensures
