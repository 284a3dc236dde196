-- The numbers of a word stand in the buffers. Assumes nothing.
use mathlib.Core.Path.{refl}
use Rattle.table_parts.specs.Draft.{word_row}
use Rattle.table_write_rows.proofs.word_row.Goals as goal

pub returns : goal.returns
unfolding word_row
returns c = refl
