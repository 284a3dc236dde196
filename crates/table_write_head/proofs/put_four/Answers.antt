-- A number in four bytes. Assumes nothing.
use Rattle.table_write_rows.proofs.Joined.{number_put}
use Rattle.table_write_head.proofs.put_four.Goals as goal

pub returns : goal.returns
returns c =
    number_put 4 c.args.v c.put_u32.ensures c.requires
