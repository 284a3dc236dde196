-- The values of the row; its index, handed on, is read back. Assumes nothing.
use mathlib.Core.Path.{◌∙◌, ap}
use mir.Syntax.{w64}
use mir.Facts.{to_z-of_z}
use Rattle.row.specs.Calls.{hold_do}
use Rattle.position_book_answer.specs.Rows.{hold_answer}
use Rattle.position_book.proofs.position_book_hold_row.Goals as goal

pub returns : goal.returns
returns c =
    let back = ap (hold_do c.args.table.now c.args.book.now) (to_z-of_z {w = w64} c.ranges.index) in
    c.hold_answer.ensures ∙ ap hold_answer (c.hold_row.ensures ∙ back)
