-- What the loop keeps.
use Rattle.book_check.proofs.Walk.{Walking}
use Rattle.book.specs.Check.{hold_ok}
use Rattle.book_check.proofs.holds_ok.Given as goal

abbrev pub invariant-loop-i : goal.invariant-loop-i
invariant-loop-i l = Walking hold_ok l.b l.at l.n l.i
