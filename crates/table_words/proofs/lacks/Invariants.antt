-- What the loops keep.
use Rattle.table_words.proofs.Meeting.{Meeting}
use Rattle.table_words.proofs.lacks.Given as goal

abbrev pub invariant-loop-i : goal.invariant-loop-i
invariant-loop-i l = Meeting l.s l.x l.m l.i
