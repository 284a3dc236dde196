-- An index below 0 or past the last, or the rows from it on. Assumes nothing.
use native.Mathlib.Omega.{arith}
use Rattle.std.proofs.lemmas.Result.{err_from_is_err_and}
use Rattle.list.proofs.Elements.{some_at, none-at}
use mathlib.Core.List.{[]}
use Rattle.row_blocks.specs.Blocks.{hold_block}
use Rattle.row_blocks.proofs.Asked.{block_below, block_past, block_rows}
use Rattle.row_blocks_holds.proofs.Row.{rows-length}
use Rattle.row_blocks_holds.proofs.rows_from.Goals as goal

pub returns-in_err-k : goal.returns-in_err-k
returns-in_err-k c =
    let p = err_from_is_err_and c.from_residual.result c.from_residual.ensures.1 in
    rw (p.1, p.2) (block_below _ _ c.ranges.i c.in_err-k.ensures)

pub returns-then-get_u32-k : goal.returns-then-get_u32-k
returns-then-get_u32-k c =
    let rows = hold_block c.args.b.now in
    block_past rows _ c.ranges.i c.in_ok-k.ensures (none-at rows _ (omega (arith, rows-length c.args.b.now, c.if-get_u32-k.true, c.get_u32.ensures)))

pub returns : goal.returns
returns c =
    let rows = hold_block c.args.b.now in
    block_rows rows _ c.ranges.i c.in_ok-k.ensures (some_at rows [] _ (omega (arith, rows-length c.args.b.now, c.if-get_u32-k.false, c.get_u32.ensures))) c.put_rows.ensures
