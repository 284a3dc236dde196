-- Nothing, or the last hold settled in its place. Assumes nothing.
use native.Mathlib.Omega.{arith}
use Rattle.book_write.proofs.Written.{counts, settled_numbers, settled-none, last-priced, settled_some}
use Rattle.book_write.proofs.settle_last.Goals as goal

pub returns-then-hs-eq0 : goal.returns-then-hs-eq0
returns-then-hs-eq0 c =
    let a = c.args in
    settled-none a.b.now c.get_u32-hs.ensures a.bar c.if-hs-eq0.true

pub slice_bounds-hold_at-end : goal.slice_bounds-hold_at-end
slice_bounds-hold_at-end c =
    let ok = c.requires.book_passed in
    omega (arith, ok.size.long, (counts ok).holds, c.get_u32-hs.ensures, c.if-hs-eq0.false)

pub put_hold-requires : goal.put_hold-requires
put_hold-requires c =
    let ok = c.requires.book_passed in
    let o = c.hold_at-o in
    record { at_in_bounds = omega (arith, ok.size.long, (counts ok).holds, c.get_u32-hs.ensures, c.if-hs-eq0.false); hold_numbers = settled_numbers c.requires.bar_passed o.result c.settle.ensures (last-priced c.args.b.now c.get_u32-hs.ensures o.ensures ok c.if-hs-eq0.false) }

pub returns : goal.returns
returns c =
    let a = c.args in
    settled_some a.b.now c.get_u32-hs.ensures c.hold_at-o.ensures a.bar c.if-hs-eq0.false c.settle.ensures c.put_hold.ensures
