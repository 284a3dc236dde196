-- What the loop keeps.
use Rattle.utf8_ascii.proofs.Ascii.{Block}
use Rattle.utf8_ascii.proofs.ascii_block.Given as goal

abbrev pub invariant-loop-k : goal.invariant-loop-k
invariant-loop-k l = Block l.s l.i l.low l.k
