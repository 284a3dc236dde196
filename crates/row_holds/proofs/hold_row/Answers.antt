-- The opening of the book, then the row. Assumes nothing.
use mathlib.Core.Path.{◌∙◌, ap}
use Rattle.std.proofs.lemmas.Result.{err_from_is_err_and}
use Rattle.text.specs.Answer.{given}
use Rattle.row.proofs.Index.{index_back}
use Rattle.row_holds.proofs.Asked.{held, no_book, answered}
use Rattle.row_holds.proofs.hold_row.Goals as goal

pub returns-in_err-open_checked : goal.returns-in_err-open_checked
returns-in_err-open_checked c =
    let p = err_from_is_err_and c.from_residual.result c.from_residual.ensures.1 in
    rw (p.1, p.2) (no_book _ _ _ c.in_err-open_checked.ensures)

pub row_at-requires : goal.row_at-requires
row_at-requires c =
    let k = c.in_ok-open_checked.ensures.ok in
    held _ _ _ k.size k.book

pub returns : goal.returns
returns c = answered _ _ _ c.in_ok-open_checked.ensures (c.row_at.ensures ∙ ap (given 15) (index_back _ c.args.i c.ranges.i))
