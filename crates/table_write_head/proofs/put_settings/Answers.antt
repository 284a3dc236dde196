-- The settings, one behind another. Assumes nothing.
use Rattle.table_layout.specs.Build.{settings_bytes}
use Rattle.table_write_rows.proofs.Joined.{◌then◌}
use Rattle.table_write_head.proofs.put_settings.Goals as goal

pub returns : goal.returns
unfolding settings_bytes
returns c =
    c.put_four-p.ensures then c.put_four-p-2.ensures then c.put_four-p-3.ensures then c.put_two-p.ensures then c.put_two.ensures
