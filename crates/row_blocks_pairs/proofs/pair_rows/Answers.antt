-- The buffer's length, the opening of the book, then the rows. Assumes nothing.
use Rattle.std.proofs.lemmas.Result.{err_from_is_err_and}
use Rattle.row_pairs.proofs.Records.{traded}
use Rattle.row_blocks.specs.Blocks.{pair_row_limit, pair_block}
use Rattle.row_blocks.proofs.Asked.{block_back, short_buffer, no_book, passed}
use Rattle.row_blocks_pairs.proofs.pair_rows.Goals as goal

pub returns-then-out-lt-PAIR_ROW_LIMIT : goal.returns-then-out-lt-PAIR_ROW_LIMIT
returns-then-out-lt-PAIR_ROW_LIMIT c = short_buffer pair_row_limit (λ n s. pair_block s n c.args.b.now) _ _ _ _ c.if-out-lt-PAIR_ROW_LIMIT.true

pub returns-in_err-c : goal.returns-in_err-c
returns-in_err-c c =
    let p = err_from_is_err_and c.from_residual.result c.from_residual.ensures.1 in
    rw (p.1, p.2) (no_book pair_row_limit (λ n s. pair_block s n c.args.b.now) _ _ _ _ c.if-out-lt-PAIR_ROW_LIMIT.false c.in_err-c.ensures)

pub rows_from-requires : goal.rows_from-requires
rows_from-requires c =
    let k = c.in_ok-c.ensures.ok in
    record { t_value = k.table; traded = traded _ _ _ k.size k.book }

pub returns : goal.returns
returns c =
    passed pair_row_limit (λ n s. pair_block s n c.args.b.now) _ _ _ _ c.if-out-lt-PAIR_ROW_LIMIT.false c.in_ok-c.ensures (block_back _ _ c.ranges.i c.rows_from.ensures)
