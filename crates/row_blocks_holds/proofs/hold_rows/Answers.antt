-- The buffer's length, the opening of the book, then the rows. Assumes nothing.
use Rattle.std.proofs.lemmas.Result.{err_from_is_err_and}
use Rattle.row_blocks.specs.Blocks.{hold_row_length, hold_block}
use Rattle.row_blocks.proofs.Asked.{block_back, short_buffer, no_book, passed}
use Rattle.row_holds.proofs.Asked.{held}
use Rattle.row_blocks_holds.proofs.hold_rows.Goals as goal

pub returns-then-out-lt-HOLD_ROW : goal.returns-then-out-lt-HOLD_ROW
returns-then-out-lt-HOLD_ROW c = short_buffer hold_row_length (λ n s. hold_block c.args.b.now) _ _ _ _ c.if-out-lt-HOLD_ROW.true

pub returns-in_err-open_checked : goal.returns-in_err-open_checked
returns-in_err-open_checked c =
    let p = err_from_is_err_and c.from_residual.result c.from_residual.ensures.1 in
    rw (p.1, p.2) (no_book hold_row_length (λ n s. hold_block c.args.b.now) _ _ _ _ c.if-out-lt-HOLD_ROW.false c.in_err-open_checked.ensures)

pub rows_from-requires : goal.rows_from-requires
rows_from-requires c =
    let k = c.in_ok-open_checked.ensures.ok in
    held _ _ _ k.size k.book

pub returns : goal.returns
returns c =
    passed hold_row_length (λ n s. hold_block c.args.b.now) _ _ _ _ c.if-out-lt-HOLD_ROW.false c.in_ok-open_checked.ensures (block_back _ _ c.ranges.i c.rows_from.ensures)
