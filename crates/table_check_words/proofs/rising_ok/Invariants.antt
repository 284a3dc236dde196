-- What the loops keep.
use Rattle.table_check_words.proofs.Rising.{Rising}
use Rattle.table_check_words.proofs.rising_ok.Given as goal

abbrev pub invariant-loop-i : goal.invariant-loop-i
invariant-loop-i l = Rising l.rows l.texts l.n l.i
