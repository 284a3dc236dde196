-- `text_write::put_decimal` meets its contract: `Filled`, the digits that stand and those to come, is the invariant. Assumes nothing.
use mathlib.Core.Path.{refl}
use native.Mathlib.Omega.{arith}
use Rattle.text_write.proofs.Written.{filled_first, filled_more, filled_last}
use Rattle.text_write.proofs.put_decimal.Goals as goal

pub loop-w-init : goal.loop-w-init
loop-w-init c = filled_first _ _ (omega arith) refl

pub loop-w-preserved : goal.loop-w-preserved
loop-w-preserved c = filled_more c.loop-w.invariant c.loop-w-test.true

pub returns : goal.returns
returns c =
    rw (filled_last c.loop-w.invariant c.loop-w-test.false) at c.put_part.ensures
