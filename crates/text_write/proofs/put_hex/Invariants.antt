-- What the loop keeps.
use Rattle.text_write.proofs.Written.{Hexed}
use Rattle.text_write.proofs.put_hex.Given as goal

abbrev pub invariant-loop-k : goal.invariant-loop-k
invariant-loop-k l = Hexed l.initial.dst l.at l.v l.dst l.k l.w
