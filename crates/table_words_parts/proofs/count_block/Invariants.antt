-- What the loops keep.
use Rattle.table_words_parts.proofs.Count.{Block}
use Rattle.table_words_parts.proofs.count_block.Given as goal

abbrev pub invariant-loop-k : goal.invariant-loop-k
invariant-loop-k l = Block l.s l.i l.c l.k
