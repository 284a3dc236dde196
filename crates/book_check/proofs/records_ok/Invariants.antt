-- What the loop keeps.
use Rattle.book_check.proofs.Walk.{Walking}
use Rattle.book.specs.Check.{record_ok}
use Rattle.book_check.proofs.records_ok.Given as goal

abbrev pub invariant-loop-i : goal.invariant-loop-i
invariant-loop-i l = Walking (record_ok l.events) l.b l.at l.n l.i
