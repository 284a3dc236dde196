-- `table_words_parts::few_behind` meets its contract: `Behind`, how many underscores stand up to j, is the invariant. Assumes nothing.
use Rattle.table_words_parts.proofs.Count.{behind-first, behind_more, behind-many, behind-last}
use Rattle.table_words_parts.proofs.few_behind.Goals as goal

pub loop-j-init : goal.loop-j-init
loop-j-init c = behind-first _ _ _ _ c.requires.i_in_bounds c.requires.c_lt_limit

pub returns-then-limit-d : goal.returns-then-limit-d
returns-then-limit-d c =
    behind-many c.loop-j.invariant c.loop-j-test.true c.one.ensures c.if-limit-d.true

pub loop-j-preserved : goal.loop-j-preserved
loop-j-preserved c =
    behind_more c.loop-j.invariant c.loop-j-test.true c.one.ensures c.if-limit-d.false

pub returns : goal.returns
returns c = behind-last c.loop-j.invariant c.loop-j-test.false
