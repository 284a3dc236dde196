-- The wall clock's time, for an offset in range. Assumes nothing.
use Rattle.bar.proofs.Ranges.{time-small}
use Rattle.book_field.proofs.Laws.{local_back}
use Rattle.book_field.proofs.local_of.Goals as goal

pub local-requires : goal.local-requires
local-requires c = time-small c.args.t c.requires

pub returns : goal.returns
returns c =
    local_back c.args.t c.requires c.local.ensures
