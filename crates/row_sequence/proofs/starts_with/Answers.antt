-- The length, the `#`, and the spelling before it. Assumes nothing.
use mathlib.Core.Path.{◌∙◌, sym}
use mathlib.Core.Bool.{false≢true}
use borrow.Author.Tests.{eqb-true, eqb-false, le-ltb}
use Rattle.row_sequence.proofs.Tags.{starts-short, starts_other, starts-same}
use Rattle.row_sequence.proofs.starts_with.Goals as goal
use Rattle.row_sequence.proofs.starts_with.Goals.{then-n-desc, else-n-desc}

pub returns-then-desc-n-eq-HASH : goal.returns-then-desc-n-eq-HASH
returns-then-desc-n-eq-HASH c =
    elim c.if-n-desc.branch [
      | then-n-desc w ↦ c.part_eq.ensures ∙ starts-same _ _ w.if-n-desc.true (eqb-true _ _ (sym w.value-is ∙ c.if-desc-n-eq-HASH.true))
      | else-n-desc w ↦ absurd (false≢true (sym (le-ltb _ _ w.if-n-desc.false) ∙ sym w.value-is ∙ c.if-desc-n-eq-HASH.true))
    ]

pub returns-else-desc-n-eq-HASH : goal.returns-else-desc-n-eq-HASH
returns-else-desc-n-eq-HASH c =
    elim c.if-n-desc.branch [
      | then-n-desc w ↦ c.if-desc-n-eq-HASH.false ∙ starts_other _ _ w.if-n-desc.true (eqb-false _ _ (sym w.value-is ∙ c.if-desc-n-eq-HASH.false))
      | else-n-desc w ↦ c.if-desc-n-eq-HASH.false ∙ starts-short _ _ w.if-n-desc.false
    ]
