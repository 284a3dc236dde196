-- Seven numbers, one field each. Assumes nothing.
use Rattle.table_codes.proofs.Places.{signal-is}
use Rattle.table_codes.proofs.signal_at.Goals as goal

pub returns : goal.returns
returns c =
    let a = c.args in
    signal-is a.cs.now a.at
