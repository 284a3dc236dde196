-- What the loops keep.
use Rattle.event_find.proofs.Seek.{Seeking}
use Rattle.event_find.proofs.find_line.Given as goal

abbrev pub invariant-loop-i : goal.invariant-loop-i
invariant-loop-i l = Seeking l.key l.s l.starts l.mids l.n l.i
