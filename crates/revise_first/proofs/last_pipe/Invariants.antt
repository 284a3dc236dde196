-- What the loops keep.
use Rattle.revise_first.proofs.Pipes.{Looking}
use Rattle.revise_first.proofs.last_pipe.Given as goal

abbrev pub invariant-loop-i : goal.invariant-loop-i
invariant-loop-i l = Looking l.s l.from l.to l.i
