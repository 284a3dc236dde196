-- What the loops keep.
use Rattle.table_check_events.proofs.Events.{Walking}
use Rattle.table_check_events.proofs.events_ok.Given as goal

abbrev pub invariant-loop-i : goal.invariant-loop-i
invariant-loop-i l = Walking l.rows l.names l.n l.clauses l.f l.g l.i
