-- The six counts, one behind another. Assumes nothing.
use Rattle.table_layout.specs.Build.{counts_bytes}
use Rattle.table_write_rows.proofs.Joined.{◌then◌}
use Rattle.table_write_head.proofs.put_counts.Goals as goal

pub returns : goal.returns
unfolding counts_bytes
returns c =
    c.put_four-p.ensures then c.put_four-p-2.ensures then c.put_four-p-3.ensures then c.put_four-p-4.ensures then c.put_four-p-5.ensures then c.put_four.ensures
