-- What the loops keep.
use Rattle.std.specs.Prelude.{◌*◌}
use Rattle.table_words_order.specs.Read.{Level}
use Rattle.table_words_order.proofs.skip_same.Given as goal

abbrev pub invariant-loop-j : goal.invariant-loop-j
invariant-loop-j l = Level l.a l.b 0 (8 * l.j)
