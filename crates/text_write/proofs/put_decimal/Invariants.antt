-- What the loops keep.
use Rattle.text_write.proofs.Written.{Filled}
use Rattle.text_write.proofs.put_decimal.Given as goal

abbrev pub invariant-loop-w : goal.invariant-loop-w
invariant-loop-w l = Filled l.v l.digits l.p l.w

abbrev pub decreases-loop-w : goal.decreases-loop-w
decreases-loop-w l = l.w
