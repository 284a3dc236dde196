-- Too short, another first byte, or the second byte decides. Assumes nothing.
use mathlib.Core.Bool.{true≢false}
use mathlib.Core.Path.{◌∙◌, sym}
use borrow.Author.Tests.{eqb-true, eqb-false, lt-leb}
use Rattle.revise_line.proofs.Tags.{tag_short, tag_other, tag_first}
use Rattle.revise_line.proofs.is_tagged.Goals as goal
use Rattle.revise_line.proofs.is_tagged.Goals.{then-to-from-ge2, else-to-from-ge2}

pub returns-then-s-from : goal.returns-then-s-from
returns-then-s-from c =
    elim c.if-to-from-ge2.branch [
      | then-to-from-ge2 w ↦ tag_first c.requires c.args.tag w.if-to-from-ge2.true (eqb-true _ _ (sym w.value-is ∙ c.if-s-from.true))
      | else-to-from-ge2 w ↦ absurd (true≢false (sym c.if-s-from.true ∙ w.value-is ∙ lt-leb 2 _ w.if-to-from-ge2.false))
    ]

pub returns-else-s-from : goal.returns-else-s-from
returns-else-s-from c =
    rw c.if-s-from.false
    elim c.if-to-from-ge2.branch [
      | then-to-from-ge2 w ↦ tag_other c.requires c.args.tag w.if-to-from-ge2.true (eqb-false _ _ (sym w.value-is ∙ c.if-s-from.false))
      | else-to-from-ge2 w ↦ tag_short c.requires c.args.tag w.if-to-from-ge2.false
    ]
