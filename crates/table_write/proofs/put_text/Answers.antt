-- A part of a text, with its length. Assumes nothing.
use Rattle.table_write_rows.proofs.Joined.{text-put}
use Rattle.table_write.proofs.put_text.Goals as goal

pub returns : goal.returns
returns c =
    text-put c.requires.part c.put_part.ensures
