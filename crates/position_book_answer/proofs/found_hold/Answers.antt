-- The values of a hold row. Assumes nothing.
use mathlib.Core.Path.{◌∙◌}
use mir.Syntax.{w32, w64}
use mir.Val.{SFits}
use mir.Facts.{to_z-of_z}
use borrow.Author.Rules.{rules}
use Rattle.position_book_answer.proofs.Values.{hold_values}
use Rattle.position_book_answer.proofs.found_hold.Goals as goal

pub returns : goal.returns
returns c =
    let small : SFits w32 c.args.o.pos = search rules in
    hold_values c.args.o (to_z-of_z {w = w64} (record { sfits = c.micros.type_inv }) ∙ c.micros.ensures)
    (to_z-of_z {w = w32} small) c.present.ensures c.value.ensures
