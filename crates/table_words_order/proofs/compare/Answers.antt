-- `table_words_order::compare` meets its contract: `Level`, that the texts are the same up to i, is the invariant. Assumes nothing.
use native.Mathlib.Omega.{arith}
use mathlib.Core.Path.{◌∙◌}
use Rattle.table_words_order.proofs.Level.{level_more, level_differ, level_last}
use Rattle.table_words_order.proofs.compare.Goals as goal

pub returns-then-a-i : goal.returns-then-a-i
returns-then-a-i c = c.cmp.ensures ∙ level_differ c.loop-i.invariant (omega arith) (omega arith) c.if-a-i.true

pub loop-i-preserved : goal.loop-i-preserved
loop-i-preserved c = level_more c.loop-i.invariant (omega arith) (omega arith) c.if-a-i.false

pub returns : goal.returns
returns c = c.cmp-2.ensures ∙ level_last c.loop-i.invariant (omega arith)
