-- What the loops keep.
use Rattle.table_words_parts.proofs.Fit.{Parted}
use Rattle.table_words_parts.proofs.parts_fit.Given as goal

abbrev pub invariant-loop-part : goal.invariant-loop-part
invariant-loop-part l = Parted l.s l.limit l._part l.at
