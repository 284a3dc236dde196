-- What the loops keep.
use Rattle.event_line.proofs.Blocks.{Passing}
use Rattle.event_line.proofs.near_end.Given as goal

abbrev pub invariant-loop-i : goal.invariant-loop-i
invariant-loop-i l = Passing l.s l.from l.i
