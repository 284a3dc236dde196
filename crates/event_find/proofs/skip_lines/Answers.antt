-- `event_find::skip_lines` meets its contract: `Skipping` is the invariant. Assumes nothing.
use native.Mathlib.Omega.{arith}
use Rattle.event_find.proofs.Others.{skipping_start, skipping_more, skipping_end}
use Rattle.event_find.proofs.skip_lines.Goals as goal

pub loop-i-init : goal.loop-i-init
loop-i-init c = skipping_start _ _

pub returns-then-has_print : goal.returns-then-has_print
returns-then-has_print c = (omega arith, c.loop-i.invariant.others)

pub loop-i-preserved : goal.loop-i-preserved
loop-i-preserved c =
    skipping_more c.loop-i.invariant c.requires.0 c.loop-i-test.true (c.has_print.ensures c.if-has_print.false)

pub returns : goal.returns
returns c = (omega arith, skipping_end c.loop-i.invariant c.requires.0 c.loop-i-test.false)
