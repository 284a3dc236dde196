-- What the loops keep.
use Rattle.table_check_words.proofs.Words.{Laying}
use Rattle.table_check_words.proofs.words_laid.Given as goal

abbrev pub invariant-loop-i : goal.invariant-loop-i
invariant-loop-i l = Laying l.rows l.texts l.n l.limit l.f l.i
