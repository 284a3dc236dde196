-- What the loops keep.
use Rattle.table_write_rows.proofs.Rows.{Wording}
use Rattle.table_write_rows.proofs.put_words.Given as goal

abbrev pub invariant-loop-i : goal.invariant-loop-i
invariant-loop-i l = Wording l.starts l.orders l.ranks l.n l.initial.dst l.at l.dst l.i l.p
