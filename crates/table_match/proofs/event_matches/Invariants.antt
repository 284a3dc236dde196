-- What the loops keep.
use Rattle.event_find.specs.Places.{lines_at}
use Rattle.table_match.specs.Rows.{clauses_of}
use Rattle.table_match.proofs.Judge.{Judging}
use Rattle.table_match.proofs.event_matches.Given as goal

abbrev pub invariant-loop-i : goal.invariant-loop-i
invariant-loop-i l = Judging (lines_at l.s l.starts l.mids l.n) (clauses_of l.t) l.first l.end l.k l.i
