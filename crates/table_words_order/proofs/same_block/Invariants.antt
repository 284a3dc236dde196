-- What the loops keep.
use Rattle.table_words_order.proofs.Level.{Block}
use Rattle.table_words_order.proofs.same_block.Given as goal

abbrev pub invariant-loop-k : goal.invariant-loop-k
invariant-loop-k l = Block l.a l.b l.i l.other l.k
