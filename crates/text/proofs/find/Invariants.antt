-- What the search keeps.
use Rattle.text.proofs.Search.{Finding}
use Rattle.text.proofs.find.Given as goal

abbrev pub invariant-loop-i : goal.invariant-loop-i
invariant-loop-i l = Finding l.s l.from l.to l.b l.i
