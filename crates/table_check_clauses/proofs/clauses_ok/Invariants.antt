-- What the loops keep.
use Rattle.table_check_clauses.proofs.Clauses.{Using}
use Rattle.table_check_clauses.proofs.clauses_ok.Given as goal

abbrev pub invariant-loop-i : goal.invariant-loop-i
invariant-loop-i l = Using l.rows l.n l.keys l.values l.used l.i
