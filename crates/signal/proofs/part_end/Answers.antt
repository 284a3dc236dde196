-- The first underscore from a place on, or the end. Assumes nothing.
use Rattle.signal.proofs.Parts.{end-from}
use Rattle.signal.proofs.part_end.Goals as goal

pub returns : goal.returns
returns c = rw c.then_some.ensures (end-from c.requires c.find-end.ensures)
