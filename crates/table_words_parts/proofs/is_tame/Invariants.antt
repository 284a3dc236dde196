-- What the loops keep.
use Rattle.table_words_parts.proofs.Tame.{Taming}
use Rattle.table_words_parts.proofs.is_tame.Given as goal

abbrev pub invariant-loop-i : goal.invariant-loop-i
invariant-loop-i l = Taming l.s l.m l.i
