-- What the loops keep.
use Rattle.event_line.proofs.Blocks.{Looked}
use Rattle.event_line.proofs.plain_block.Given as goal

abbrev pub invariant-loop-k : goal.invariant-loop-k
invariant-loop-k l = Looked l.s l.i l.first l.k
