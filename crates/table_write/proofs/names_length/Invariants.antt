-- What the loops keep.
use Rattle.table_write.proofs.Names.{Summing}
use Rattle.table_write.proofs.names_length.Given as goal

abbrev pub invariant-loop-i : goal.invariant-loop-i
invariant-loop-i l = Summing l.es l.n l.sum l.i
