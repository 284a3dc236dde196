-- The local time, the sign, the price and the yield. Assumes nothing.
use Rattle.row_holds.proofs.Row.{row_is}
use Rattle.row_holds.proofs.row_of.Goals as goal

pub returns : goal.returns
returns c = row_is c.args.o c.local_of.result c.pos_sign.result c.local_of.ensures c.pos_sign.ensures
