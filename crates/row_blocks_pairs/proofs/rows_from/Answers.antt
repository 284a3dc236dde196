-- An index below 0, no such pair, or the rows from it on. Assumes nothing.
use native.Mathlib.Omega.{arith}
use mathlib.Core.Path.{◌≡◌, subst}
use Rattle.std.specs.Prelude.{None, Some}
use Rattle.std.proofs.lemmas.Result.{err_from_is_err_and}
use Rattle.table.specs.Layout.{parts_in}
use Rattle.table.specs.Table.{sheet_of}
use Rattle.row.specs.declared.RowError.TheVariants.{PastLast}
use Rattle.row_pairs.specs.Found.{FoundAs}
use Rattle.row_blocks.specs.Blocks.{pair_block}
use Rattle.row_blocks.proofs.Asked.{block_below, block_past, block_rows}
use Rattle.row_blocks_pairs.proofs.First.{first-none, first_some, first_rows}
use Rattle.row_blocks_pairs.proofs.rows_from.Goals as goal

pub returns-in_err-k : goal.returns-in_err-k
returns-in_err-k c =
    let p = err_from_is_err_and c.from_residual.result c.from_residual.ensures.1 in
    rw (p.1, p.2) (block_below _ _ c.ranges.i c.in_err-k.ensures)

pub returns-in_err-first : goal.returns-in_err-first
returns-in_err-first c =
    let p = err_from_is_err_and c.from_residual-in_err-first.result c.from_residual-in_err-first.ensures.1 in
    let none : c.find_pair.result ≡ None = grind arith in
    let last : c.in_err-first.field-0.0 ≡ PastLast = grind arith in
    let s = sheet_of (parts_in c.args.t.now) in
    rw (p.1, p.2, last)
    (block_past (pair_block s c.args.c c.args.b.now) _ c.ranges.i c.in_ok-k.ensures (first-none s (subst (FoundAs c.args.c c.args.b.now 0 c.in_ok-k.k) none c.find_pair.ensures)))

pub returns : goal.returns
returns c =
    let some : c.find_pair.result ≡ Some c.in_ok-first.first = grind arith in
    let found : FoundAs c.args.c c.args.b.now 0 c.in_ok-k.k (Some c.in_ok-first.first) = subst (FoundAs c.args.c c.args.b.now 0 c.in_ok-k.k) some c.find_pair.ensures in
    let s = sheet_of (parts_in c.args.t.now) in
    block_rows (pair_block s c.args.c c.args.b.now) _ c.ranges.i c.in_ok-k.ensures (first_some s found) (first_rows s found c.put_rows.ensures)
