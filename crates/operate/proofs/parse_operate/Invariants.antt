-- What the loop keeps.
use Rattle.operate.proofs.Laws.{Seeking}
use Rattle.operate.proofs.parse_operate.Given as goal

abbrev pub invariant-loop-operate : goal.invariant-loop-operate
invariant-loop-operate l = Seeking l.s l.operate-index
