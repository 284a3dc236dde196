-- The layout number, the settings, the counts and the places, one behind another. Assumes nothing.
use Rattle.table_write_rows.proofs.Joined.{◌then◌}
use Rattle.table_write_head.proofs.put_head.Goals as goal

pub places_of-q-requires : goal.places_of-q-requires
places_of-q-requires c = rw c.counts_of-c.ensures c.requires.head_fits.room

pub returns : goal.returns
returns c =
    rw (c.settings_of.ensures, c.places_of-q.ensures, c.counts_of-c.ensures) at (c.put_four-p.ensures then c.put_settings-p.ensures then c.put_counts-p.ensures then c.put_places.ensures)
