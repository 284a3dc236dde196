-- What the loops keep.
use Rattle.table_check_words.proofs.Ranks.{Ranking}
use Rattle.table_check_words.proofs.ranks_ok.Given as goal

abbrev pub invariant-loop-i : goal.invariant-loop-i
invariant-loop-i l = Ranking l.rows l.n l.i
