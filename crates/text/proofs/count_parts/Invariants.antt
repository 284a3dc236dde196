-- What the loops keep.
use Rattle.text.proofs.Parts.{Counting}
use Rattle.text.proofs.count_parts.Given as goal

abbrev pub invariant-loop-i : goal.invariant-loop-i
invariant-loop-i l = Counting l.s l.from l.to l.b l.n l.i
