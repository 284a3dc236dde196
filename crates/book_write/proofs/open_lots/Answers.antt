-- None, or those of the last hold. Assumes nothing.
use native.Mathlib.Omega.{arith}
use Rattle.book_write.proofs.Written.{counts, lots-none, lots_some}
use Rattle.book_write.proofs.open_lots.Goals as goal

pub returns-then-holds-eq0 : goal.returns-then-holds-eq0
returns-then-holds-eq0 c = lots-none c.args.b.now c.get_u32-holds.ensures c.if-holds-eq0.true

pub slice_bounds-hold_at-end : goal.slice_bounds-hold_at-end
slice_bounds-hold_at-end c =
    let ok = c.requires in
    omega (arith, ok.size.long, (counts ok).holds, c.get_u32-holds.ensures, c.if-holds-eq0.false)

pub returns : goal.returns
returns c =
    lots_some c.args.b.now c.get_u32-holds.ensures c.hold_at.ensures c.if-holds-eq0.false
