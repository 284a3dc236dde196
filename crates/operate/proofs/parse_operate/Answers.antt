-- One operate after another, until a spelling fits or they end. Assumes nothing.
use mathlib.Core.Path.{sym, ◌∙◌}
use Rattle.operate.proofs.Laws.{code_at, seeking_first, seeking_hit, seeking_more, seeking_none}
use Rattle.operate.proofs.parse_operate.Goals as goal

pub loop-operate-init : goal.loop-operate-init
loop-operate-init c = seeking_first _

pub returns-then-is_spelled : goal.returns-then-is_spelled
returns-then-is_spelled c =
    let code = code_at c.loop-operate.operate-index c.loop-operate-test.true in
    rw code (seeking_hit c.loop-operate.invariant c.loop-operate-test.true (sym (rw code at c.is_spelled.ensures) ∙ c.if-is_spelled.true))

pub loop-operate-preserved : goal.loop-operate-preserved
loop-operate-preserved c =
    let code = code_at c.loop-operate.operate-index c.loop-operate-test.true in
    seeking_more c.loop-operate.invariant c.loop-operate-test.true (sym (rw code at c.is_spelled.ensures) ∙ c.if-is_spelled.false)

pub returns : goal.returns
returns c = seeking_none c.loop-operate.invariant c.loop-operate-test.false
