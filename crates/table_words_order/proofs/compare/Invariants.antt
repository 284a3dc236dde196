-- What the loops keep.
use Rattle.table_words_order.specs.Read.{Level}
use Rattle.table_words_order.proofs.compare.Given as goal

abbrev pub invariant-loop-i : goal.invariant-loop-i
invariant-loop-i l = Level l.a l.b 0 l.i
