-- The values of a pair row. Assumes nothing.
use mathlib.Core.Path.{◌∙◌}
use mir.Syntax.{w32, w64}
use mir.Val.{SFits}
use mir.Facts.{to_z-of_z}
use borrow.Author.Rules.{rules}
use Rattle.position_book_answer.proofs.Values.{pair_values}
use Rattle.position_book_answer.proofs.found_pair.Goals as goal

pub returns : goal.returns
returns c =
    let small : SFits w64 c.args.p.ids = search rules in
    pair_values c.args.p (to_z-of_z {w = w32} (record { sfits = c.side_sign.type_inv }) ∙ c.side_sign.ensures)
    (to_z-of_z {w = w64} (record { sfits = c.micros.type_inv }) ∙ c.micros.ensures) (to_z-of_z {w = w64} (record { sfits = c.micros-2.type_inv }) ∙ c.micros-2.ensures)
    (to_z-of_z {w = w64} small) c.present.ensures c.value.ensures
