-- Six fields, one behind another. Assumes nothing.
use mathlib.Core.Path.{◌∙◌}
use mir.Syntax.{w32, w64}
use mir.Facts.{to_z-of_z}
use Rattle.row_blocks_pair_write.proofs.Row.{trade_put}
use Rattle.row_blocks_pair_write.proofs.put_trade.Goals as goal

pub returns : goal.returns
returns c =
    trade_put c.args.p c.requires.at_in_bounds (to_z-of_z {w = w32} (record { sfits = c.side_sign.type_inv }) ∙ c.side_sign.ensures) c.present.ensures
    (to_z-of_z {w = w64} (record { sfits = c.micros.type_inv }) ∙ c.micros.ensures) (to_z-of_z {w = w64} (record { sfits = c.micros-2.type_inv }) ∙ c.micros-2.ensures)
    c.put_i32.ensures c.put_u32.ensures c.put_i64.ensures c.put_i64-2.ensures c.put_f64.ensures c.put_f64-2.ensures
