-- The five fields, one behind another. Assumes nothing.
use mathlib.Core.Path.{◌∙◌}
use mir.Syntax.{w32, w64}
use mir.Val.{SFits}
use mir.Facts.{to_z-of_z}
use borrow.Author.Rules.{rules}
use Rattle.row_blocks_holds.proofs.Row.{row_put}
use Rattle.row_blocks_holds.proofs.put_row.Goals as goal

pub returns : goal.returns
returns c =
    let small : SFits w32 c.args.o.pos = search rules in
    row_put c.args.o c.requires.hold_row_length_in_bounds (to_z-of_z {w = w64} (record { sfits = c.micros.type_inv }) ∙ c.micros.ensures)
    (to_z-of_z {w = w32} small) c.present.ensures c.put_i64.ensures c.put_i32.ensures c.put_u32.ensures
    c.put_f64.ensures c.put_yield.ensures
