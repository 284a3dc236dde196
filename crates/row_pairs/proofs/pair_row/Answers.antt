-- The buffer's length, the opening of the book, then the row. Assumes nothing.
use mathlib.Core.Path.{subst}
use Rattle.std.proofs.lemmas.Result.{err_from_is_err_and}
use Rattle.text.specs.Answer.{given}
use Rattle.row.proofs.Index.{index_back}
use Rattle.row_pairs.specs.Row.{Answered}
use Rattle.row_pairs.proofs.Records.{traded}
use Rattle.row_pairs.proofs.Answers.{short_buffer, no_book, passed}
use Rattle.row_pairs.proofs.pair_row.Goals as goal

pub returns-then-buffer-lt-ROW_BUFFER : goal.returns-then-buffer-lt-ROW_BUFFER
returns-then-buffer-lt-ROW_BUFFER c = short_buffer _ _ _ _ c.if-buffer-lt-ROW_BUFFER.true

pub returns-in_err-c : goal.returns-in_err-c
returns-in_err-c c =
    let p = err_from_is_err_and c.from_residual.result c.from_residual.ensures.1 in
    rw (p.1, p.2) (no_book _ _ _ _ c.if-buffer-lt-ROW_BUFFER.false c.in_err-c.ensures)

pub row_at-requires : goal.row_at-requires
row_at-requires c =
    let k = c.in_ok-c.ensures.ok in
    record { t_value = k.table; traded = traded _ _ _ k.size k.book; row_buffer_in_bounds = c.if-buffer-lt-ROW_BUFFER.false }

pub returns : goal.returns
returns c =
    passed _ _ _ _ c.if-buffer-lt-ROW_BUFFER.false c.in_ok-c.ensures
    (subst (λ o. Answered (given 15 o) c.args.buffer.now c.row_at.new.buffer c.row_at.result) (index_back _ c.args.i c.ranges.i) c.row_at.ensures)
