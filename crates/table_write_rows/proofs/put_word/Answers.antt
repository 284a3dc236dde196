-- The four numbers of a word, one behind another. Assumes nothing.
use Rattle.table_layout.specs.Build.{word_bytes}
use Rattle.table_write_rows.proofs.Joined.{◌then◌}
use Rattle.table_write_rows.proofs.put_word.Goals as goal

pub returns : goal.returns
unfolding word_bytes
returns c =
    c.put_two-p.ensures then c.put_two-p-2.ensures then c.put_two-p-3.ensures then c.put_two.ensures
