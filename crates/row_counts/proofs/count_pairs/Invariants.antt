-- What the loop keeps.
use Rattle.row_counts.proofs.Counting.{Counting}
use Rattle.row_counts.proofs.count_pairs.Given as goal

abbrev pub invariant-loop-j : goal.invariant-loop-j
invariant-loop-j l = Counting l.c l.b l.j l.pairs
