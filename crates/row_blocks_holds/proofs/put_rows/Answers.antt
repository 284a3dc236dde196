-- `Writing` is the invariant: i rows are written. Then none is left, or none fits. Assumes nothing.
use native.Mathlib.Omega.{arith}
use mathlib.Core.Path.{◌≡◌}
use Rattle.row_blocks_holds.proofs.Writing.{writing_none, writing_next, writing_end}
use Rattle.row_blocks_holds.proofs.put_rows.Goals as goal

pub loop-i-init : goal.loop-i-init
loop-i-init c = writing_none _ _ _

pub loop-i-preserved : goal.loop-i-preserved
loop-i-preserved c = writing_next c.loop-i.invariant (omega (arith, c.loop-i-test.true, c.min-rows.ensures, c.get_u32.ensures)) c.put_hold.ensures

pub returns : goal.returns
returns c =
    let all : c.loop-i.i ≡ c.min-rows.result = omega arith in
    rw (← all) (writing_end c.loop-i.invariant (omega (arith, c.min-rows.ensures, c.get_u32.ensures)) c.requires.k_bound)
