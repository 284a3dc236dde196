-- What the loops keep.
use Rattle.event_find.proofs.Others.{Counting}
use Rattle.event_find.proofs.has_print.Given as goal

abbrev pub invariant-loop-k : goal.invariant-loop-k
invariant-loop-k l = Counting l.prints l.h l.i l.count l.k
