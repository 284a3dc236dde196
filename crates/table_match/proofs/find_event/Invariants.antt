-- What the loops keep.
use Rattle.table_match.proofs.Events.{Finding}
use Rattle.table_match.proofs.find_event.Given as goal

abbrev pub invariant-loop-i : goal.invariant-loop-i
invariant-loop-i l = Finding l.kind l.t l.s l.starts l.mids l.n l.i
