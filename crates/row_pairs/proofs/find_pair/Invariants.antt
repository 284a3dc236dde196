-- What the loop keeps.
use Rattle.row_pairs.proofs.Find.{Seeking}
use Rattle.row_pairs.proofs.find_pair.Given as goal

abbrev pub invariant-loop-j : goal.invariant-loop-j
invariant-loop-j l = Seeking l.c l.b l.from l.i l.left l.j
