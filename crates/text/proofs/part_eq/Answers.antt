-- `text::part_eq` meets its contract: the two parts are lent and compared. Assumes nothing.
use mathlib.Core.Path.{◌∙◌, ap₂}
use Rattle.text.specs.Text.{same}
use Rattle.text.proofs.Laws.{part-size}
use Rattle.text.proofs.Same.{same-pointwise}
use Rattle.text.proofs.part_eq.Goals as goal

pub returns : goal.returns
returns c =
    let a = c.args in
    c.eq.ensures ∙ same-pointwise _ _ ∙ ap₂ same (part-size a.a0 a.a1 a.a.now c.requires.part.order) (part-size a.b0 a.b1 a.b.now c.requires.part_2.order)
