-- What the loop keeps.
use Rattle.bar_line_price.proofs.Digits.{Continuing}
use Rattle.bar_line_price.proofs.digits_behind.Given as goal

abbrev pub invariant-loop-b : goal.invariant-loop-b
invariant-loop-b l = Continuing l.s l.v l.w l.b-index
