-- `table_words_parts::parts_fit` meets its contract: `Parted`, the parts still to be looked at, is the invariant. Assumes nothing.
use mathlib.Core.Path.{sym, ◌∙◌}
use Rattle.table_words_parts.proofs.Fit.{parted_first, parted_wild, parted_end, parted_more, parted_last}
use Rattle.table_words_parts.proofs.parts_fit.Goals as goal

pub loop-part-init : goal.loop-part-init
loop-part-init c = parted_first _ _

pub returns-then-is_wild : goal.returns-then-is_wild
returns-then-is_wild c =
    parted_wild c.loop-part.invariant c.loop-part-test.true c.find-e.ensures (sym c.is_wild.ensures ∙ c.if-is_wild.true)

pub returns-then-e-n : goal.returns-then-e-n
returns-then-e-n c =
    parted_end c.loop-part.invariant c.loop-part-test.true c.find-e.ensures (sym c.is_wild.ensures ∙ c.if-is_wild.false) c.if-e-n.true

pub loop-part-preserved : goal.loop-part-preserved
loop-part-preserved c =
    parted_more c.loop-part.invariant c.loop-part-test.true c.find-e.ensures (sym c.is_wild.ensures ∙ c.if-is_wild.false) c.if-e-n.false

pub returns : goal.returns
returns c = parted_last c.loop-part.invariant c.loop-part-test.false
