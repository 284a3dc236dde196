-- What the loops keep.
use Rattle.table_write_rows.proofs.Rows.{Eventing}
use Rattle.table_write_rows.proofs.put_events.Given as goal

abbrev pub invariant-loop-i : goal.invariant-loop-i
invariant-loop-i l = Eventing l.es l.n l.initial.dst l.at l.dst l.i l.p l.names
