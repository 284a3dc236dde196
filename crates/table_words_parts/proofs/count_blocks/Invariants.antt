-- What the loops keep.
use Rattle.table_words_parts.proofs.Count.{Blocks}
use Rattle.table_words_parts.proofs.count_blocks.Given as goal

abbrev pub invariant-loop-j : goal.invariant-loop-j
invariant-loop-j l = Blocks l.s l.n l.c l.j
