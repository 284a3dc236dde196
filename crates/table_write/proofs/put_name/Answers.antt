-- A name by its start and its length. Assumes nothing.
use lib.ListN.{get_or}
use Rattle.table_write.proofs.Names.{name-put}
use Rattle.table_write.proofs.put_name.Goals as goal

pub returns : goal.returns
returns c =
    let a = c.args in
    name-put a.s.now (get_or a.l.now 2 0) (get_or a.l.now 3 0) c.put_text.ensures
