-- The rows are printed one behind another until there is none. Assumes nothing.
use Prim.Native.Nat.{◌+◌, ◌-◌}
use native.Mathlib.Omega.{arith}
use Rattle.position.specs.Rows.{hold_rows}
use Rattle.position.specs.Run.{hold_line}
use Rattle.book.specs.Layout.{holds_of}
use Rattle.run_output.specs.Shown.{hold_room}
use Rattle.run_rows.specs.Rows.{hold_lines}
use Rattle.run_rows.proofs.Asked.{holds-within}
use Rattle.run_rows.proofs.Listed.{Listed, listed_none, listed_room, listed_next, listed_last}
use Rattle.run_rows.proofs.put_holds.Goals as goal

pub returns : goal.returns
unfolding hold_lines
returns c = listed_last c.loop-r.invariant _ c.add_hold.ensures c.in_default.is _ (holds-within c.requires.booked)

pub loop-r-init : goal.loop-r-init
loop-r-init c =
    listed_none _ _ hold_room c.args.out.now c.args.from (omega (arith, c.requires.hold_room_in_bounds))

pub add_hold-requires : goal.add_hold-requires
add_hold-requires c =
    let l = c.loop-r.invariant in
    let all = listed_room l c.requires.hold_room_in_bounds (holds-within c.requires.booked) in
    record { booked = c.requires.booked; i_le_run_bars = all.0; hold_room_in_bounds = all.1 }

pub overflow_add-i : goal.overflow_add-i
overflow_add-i c =
    let next : let a = c.args in let l = c.loop-r in
    Listed (hold_rows (holds_of a.book.now)) hold_line hold_room a.out.now c.add_hold.new.out a.from (l.i + 1) c.in-Some.r = listed_next c.loop-r.invariant _ c.add_hold.ensures c.in-Some.is in
    omega (arith, next.count, holds-within c.requires.booked)

pub loop-r-smaller : goal.loop-r-smaller
loop-r-smaller c =
    let next : let a = c.args in let l = c.loop-r in
    Listed (hold_rows (holds_of a.book.now)) hold_line hold_room a.out.now c.add_hold.new.out a.from (l.i + 1) c.in-Some.r = listed_next c.loop-r.invariant _ c.add_hold.ensures c.in-Some.is in
    omega (arith, next.count)

pub loop-r-preserved : goal.loop-r-preserved
loop-r-preserved c =
    let next : let a = c.args in let l = c.loop-r in
    Listed (hold_rows (holds_of a.book.now)) hold_line hold_room a.out.now c.add_hold.new.out a.from (l.i + 1) c.in-Some.r = listed_next c.loop-r.invariant _ c.add_hold.ensures c.in-Some.is in
    next

pub shape_of-out : goal.shape_of-out
shape_of-out c = (returns c).put.kept
