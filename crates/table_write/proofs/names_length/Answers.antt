-- `table_write::names_length` meets its contract: `Summing` is the invariant. Assumes nothing.
use native.Mathlib.Omega.{arith}
use Rattle.table_write.proofs.Names.{summing_first, summing_low, summing_more, summing_last}
use Rattle.table_write.proofs.names_length.Goals as goal

pub loop-i-init : goal.loop-i-init
loop-i-init c = summing_first c.args.es.now c.args.n c.requires.n_in_bounds c.requires.n_bound

pub overflow_add-sum-in-loop-i : goal.overflow_add-sum-in-loop-i
overflow_add-sum-in-loop-i c = omega (arith, summing_low c.loop-i.invariant c.loop-i-test.true)

pub loop-i-preserved : goal.loop-i-preserved
loop-i-preserved c = summing_more c.loop-i.invariant c.loop-i-test.true

pub returns : goal.returns
returns c = summing_last c.loop-i.invariant c.loop-i-test.false
