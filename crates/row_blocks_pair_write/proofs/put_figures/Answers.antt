-- Seven fields, one behind another. Assumes nothing.
use mir.Syntax.{w64}
use mir.Val.{SFits}
use mir.Facts.{to_z-of_z}
use borrow.Author.Rules.{rules}
use Rattle.row_blocks_pair_write.proofs.Row.{figures_put}
use Rattle.row_blocks_pair_write.proofs.put_figures.Goals as goal

pub returns : goal.returns
returns c =
    let small : SFits w64 c.args.p.ids = search rules in
    figures_put c.args.p c.requires.at_in_bounds (to_z-of_z {w = w64} small)
    c.put_i64.ensures c.put_f64.ensures c.put_yield.ensures c.put_u64.ensures c.put_u64-2.ensures c.put_u64-3.ensures c.put_u64-4.ensures
