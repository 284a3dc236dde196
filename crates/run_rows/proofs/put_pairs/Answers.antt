-- The rows are printed one behind another until there is none. Assumes nothing.
use Prim.Native.Nat.{◌+◌, ◌-◌}
use native.Mathlib.Omega.{arith}
use Rattle.position.specs.Run.{pair_line}
use Rattle.run_output.specs.Shown.{pair_room}
use Rattle.run_rows.specs.Rows.{pair_rows, pair_lines}
use Rattle.run_rows.proofs.Asked.{pairs_within}
use Rattle.run_rows.proofs.Listed.{Listed, listed_none, listed_room, listed_next, listed_last}
use Rattle.run_rows.proofs.put_pairs.Goals as goal

pub returns : goal.returns
unfolding pair_lines
returns c = listed_last c.loop-r.invariant _ c.add_pair.ensures c.in_default.is _ (pairs_within c.requires.booked)

pub loop-r-init : goal.loop-r-init
loop-r-init c =
    listed_none _ _ pair_room c.args.out.now c.args.from (omega (arith, c.requires.pair_room_in_bounds))

pub add_pair-requires : goal.add_pair-requires
add_pair-requires c =
    let l = c.loop-r.invariant in
    let all = listed_room l c.requires.pair_room_in_bounds (pairs_within c.requires.booked) in
    record { booked = c.requires.booked; i_le_run_bars = all.0; pair_room_in_bounds = all.1 }

pub overflow_add-i : goal.overflow_add-i
overflow_add-i c =
    let next : let a = c.args in let l = c.loop-r in
    Listed (pair_rows a.table.now a.book.now) pair_line pair_room a.out.now c.add_pair.new.out a.from (l.i + 1) c.in-Some.r = listed_next c.loop-r.invariant _ c.add_pair.ensures c.in-Some.is in
    omega (arith, next.count, pairs_within c.requires.booked)

pub loop-r-smaller : goal.loop-r-smaller
loop-r-smaller c =
    let next : let a = c.args in let l = c.loop-r in
    Listed (pair_rows a.table.now a.book.now) pair_line pair_room a.out.now c.add_pair.new.out a.from (l.i + 1) c.in-Some.r = listed_next c.loop-r.invariant _ c.add_pair.ensures c.in-Some.is in
    omega (arith, next.count)

pub loop-r-preserved : goal.loop-r-preserved
loop-r-preserved c =
    let next : let a = c.args in let l = c.loop-r in
    Listed (pair_rows a.table.now a.book.now) pair_line pair_room a.out.now c.add_pair.new.out a.from (l.i + 1) c.in-Some.r = listed_next c.loop-r.invariant _ c.add_pair.ensures c.in-Some.is in
    next

pub shape_of-out : goal.shape_of-out
shape_of-out c = (returns c).put.kept
