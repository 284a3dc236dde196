-- What the loops keep.
use Rattle.table_write_rows.proofs.Rows.{Clausing}
use Rattle.table_write_rows.proofs.put_clauses.Given as goal

abbrev pub invariant-loop-clause : goal.invariant-loop-clause
invariant-loop-clause l = Clausing l.cs l.numbers l.codes l.n l.initial.dst l.at l.dst l.clause l.p
