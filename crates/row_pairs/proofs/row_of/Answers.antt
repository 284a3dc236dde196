-- The parts of a pair row. Assumes nothing.
use native.Mathlib.Omega.{arith}
use Rattle.row_pairs.proofs.Values.{ids_step, row_is}
use Rattle.row_pairs.proofs.row_of.Goals as goal

pub overflow_sub-result : goal.overflow_sub-result
overflow_sub-result c = (ids_step c.args.z.bar.id c.args.a.bar.id (omega arith) (omega arith)).0

pub returns : goal.returns
returns c =
    row_is c.args.a _ _ _ _ _ _ _ _ _ _
    c.side_of-side.ensures
    c.local_of.ensures
    c.local_of-2.ensures
    (ids_step c.args.z.bar.id c.args.a.bar.id (omega arith) (omega arith)).1
    c.days_between.ensures
    c.pair_yield.ensures
