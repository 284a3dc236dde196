-- The first LF of the bytes looked at so far.
use Rattle.revise_line.proofs.Blocks.{Looked}
use Rattle.revise_line.proofs.lf_block.Given as goal

abbrev pub invariant-loop-k : goal.invariant-loop-k
invariant-loop-k l = Looked l.s l.i l.first l.k
