-- What the loop keeps.
use Rattle.text_number.proofs.Digits.{Bounded}
use Rattle.text_number.proofs.magnitude.Given as goal

abbrev pub invariant-loop-i : goal.invariant-loop-i
invariant-loop-i l = Bounded l.s l.from l.to l.hi l.v l.i
