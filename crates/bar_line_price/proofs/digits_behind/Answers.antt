-- One digit more behind the value. Assumes nothing.
use native.Mathlib.Omega.{arith}
use mathlib.Core.Path.{◌≡◌}
use lib.ListN.{length}
use Rattle.bar_line_price.proofs.Digits.{every-each, continuing_first, continuing_most, continuing_more, continuing_last}
use Rattle.bar_line_price.proofs.digits_behind.Goals as goal

pub loop-b-init : goal.loop-b-init
loop-b-init c = continuing_first _ _

pub overflow_mul-w : goal.overflow_mul-w
overflow_mul-w c = omega (arith, continuing_most c.loop-b.invariant c.requires.few (omega arith))

pub overflow_sub-b : goal.overflow_sub-b
overflow_sub-b c = omega (arith, every-each c.args.s.now c.requires.digits c.loop-b.b-index c.loop-b-test.true)

pub overflow_add-w : goal.overflow_add-w
overflow_add-w c =
    omega (arith, continuing_most c.loop-b.invariant c.requires.few (omega arith), every-each c.args.s.now c.requires.digits c.loop-b.b-index c.loop-b-test.true)

pub loop-b-preserved : goal.loop-b-preserved
loop-b-preserved c = rw c.from.ensures (continuing_more c.loop-b.invariant c.requires.digits c.loop-b-test.true)

pub returns : goal.returns
returns c =
    let e : c.loop-b.b-index ≡ length c.args.s.now = omega arith in
    continuing_last (rw e at c.loop-b.invariant)
