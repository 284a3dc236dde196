-- What the loops keep.
use Rattle.table_write.proofs.Names.{Naming}
use Rattle.table_write.proofs.put_names.Given as goal

abbrev pub invariant-loop-i : goal.invariant-loop-i
invariant-loop-i l = Naming l.s l.es l.n l.initial.dst l.at l.dst l.i l.p
