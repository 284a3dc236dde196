-- What the loop keeps.
use Rattle.utf8_common.proofs.Common.{Counted}
use Rattle.utf8_common.proofs.common_block.Given as goal

abbrev pub invariant-loop-k : goal.invariant-loop-k
invariant-loop-k l = Counted l.s l.i l.odds l.k
