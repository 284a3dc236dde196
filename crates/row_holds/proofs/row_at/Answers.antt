-- An index below 0 or past the last, or the slot that is read and shown. Assumes nothing.
use mathlib.Core.Path.{◌∙◌, sym, ap}
use Prim.Native.Nat.{◌<◌}
use native.Mathlib.Omega.{arith}
use Rattle.std.proofs.lemmas.Result.{err_from_is_err_and}
use Rattle.le.specs.Field.{u32}
use Rattle.text.specs.Answer.{given}
use Rattle.position.specs.Rows.{hold_rows}
use Rattle.book.specs.Layout.{holds_of}
use Rattle.row.proofs.Index.{index_below, index_is}
use Rattle.row_holds.proofs.Asked.{row-none, read-time, read-row}
use Rattle.row_holds.proofs.row_at.Goals as goal

pub returns-in_err-k : goal.returns-in_err-k
returns-in_err-k c =
    let p = err_from_is_err_and c.from_residual.result c.from_residual.ensures.1 in
    let b = index_below (hold_rows (holds_of c.args.b.now)) c.ranges.i c.in_err-k.ensures in
    rw (p.1, p.2, b.0, b.1)

pub returns-then-get_u32-k : goal.returns-then-get_u32-k
returns-then-get_u32-k c =
    ap (given 15) (sym (index_is _ c.ranges.i c.in_ok-k.ensures ∙ row-none c.args.b.now _ (omega (arith, c.if-get_u32-k.true, c.get_u32.ensures))))

pub row_of-requires : goal.row_of-requires
row_of-requires c =
    let below : c.in_ok-k.k < u32 c.args.b.now 0 = omega (arith, c.if-get_u32-k.false, c.get_u32.ensures) in
    read-time c.requires c.in_ok-k.k below c.hold_at-o.ensures

pub returns : goal.returns
returns c =
    let below : c.in_ok-k.k < u32 c.args.b.now 0 = omega (arith, c.if-get_u32-k.false, c.get_u32.ensures) in
    ap (given 15) (read-row c.requires c.in_ok-k.k below c.hold_at-o.ensures c.row_of.ensures ∙ sym (index_is _ c.ranges.i c.in_ok-k.ensures))
