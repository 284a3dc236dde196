-- A number in two bytes. Assumes nothing.
use Rattle.table_write_rows.proofs.Joined.{number_put}
use Rattle.table_write_rows.proofs.put_two.Goals as goal

pub returns : goal.returns
returns c =
    number_put 2 c.args.v c.put_u16.ensures c.requires
