-- The opening of the book, then the counts. Assumes nothing.
use native.Mathlib.Omega.{arith}
use Rattle.std.proofs.lemmas.Result.{err_from_is_err_and}
use Rattle.table.specs.Layout.{parts_in}
use Rattle.table.specs.Table.{sheet_of}
use Rattle.row_pairs.proofs.Records.{traded}
use Rattle.row_counts.proofs.Asked.{no_book, passed}
use Rattle.row_counts.proofs.row_counts.Goals as goal

pub returns-in_err-c : goal.returns-in_err-c
returns-in_err-c c =
    let p = err_from_is_err_and c.from_residual.result c.from_residual.ensures.1 in
    rw (p.1, p.2) (no_book _ _ c.in_err-c.ensures)

pub get_u32-requires : goal.get_u32-requires
get_u32-requires c = omega (arith, c.in_ok-c.ensures.ok.size.long)

pub count_pairs-requires : goal.count_pairs-requires
count_pairs-requires c =
    let k = c.in_ok-c.ensures.ok in
    (traded _ _ _ k.size k.book).room

pub returns : goal.returns
returns c = passed _ _ c.in_ok-c.ensures c.get_u32.ensures (c.count_pairs.ensures (sheet_of (parts_in c.args.table.now)))
