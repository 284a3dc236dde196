-- What the loops keep.
use Rattle.table_words_parts.proofs.Count.{Behind}
use Rattle.table_words_parts.proofs.few_behind.Given as goal

abbrev pub invariant-loop-j : goal.invariant-loop-j
invariant-loop-j l = Behind l.s l.i l.c l.limit l.d l.j
