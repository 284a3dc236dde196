-- Line by line to the end, where the last bar is fed. Assumes nothing.
use Prim.Native.Nat.{◌-◌}
use native.Mathlib.Omega.{arith}
use mathlib.Core.Path.{refl, ◌∙◌}
use Rattle.std.proofs.lemmas.Result.{err_from_is_err_and}
use Rattle.run_feed.proofs.Lines.{waiting_ready, read-cut, all-fed, looping_next, refused_with}
use Rattle.run_feed.proofs.feed_lines.Goals as goal

pub loop-i-init : goal.loop-i-init
loop-i-init c = record { running = c.requires; book = refl; notes = refl; paper = refl }

pub find-end-requires : goal.find-end-requires
find-end-requires c = record { order = c.loop-i.invariant.running.within; within = omega arith }

pub shape_of-book-then-end-n : goal.shape_of-book-then-end-n
shape_of-book-then-end-n c = c.loop-i.invariant.book

pub shape_of-signals-then-end-n : goal.shape_of-signals-then-end-n
shape_of-signals-then-end-n c = c.loop-i.invariant.notes

pub shape_of-out-then-end-n : goal.shape_of-out-then-end-n
shape_of-out-then-end-n c = c.loop-i.invariant.paper

pub returns-then-end-n : goal.returns-then-end-n
returns-then-end-n c = read-cut c.loop-i.invariant.running c.find-end.ensures c.loop-i-test.true c.if-end-n.true

pub take_line-requires : goal.take_line-requires
take_line-requires c = record { running = c.loop-i.invariant.running; first_at = c.find-end.ensures; to_in_bounds = omega (arith, c.if-end-n.false, c.find-end.ensures.high) }

pub shape_of-book-in_err-p : goal.shape_of-book-in_err-p
shape_of-book-in_err-p c = c.take_line.auto.book ∙ c.loop-i.invariant.book

pub shape_of-signals-in_err-p : goal.shape_of-signals-in_err-p
shape_of-signals-in_err-p c = c.take_line.auto.signals ∙ c.loop-i.invariant.notes

pub shape_of-out-in_err-p : goal.shape_of-out-in_err-p
shape_of-out-in_err-p c = c.take_line.auto.out ∙ c.loop-i.invariant.paper

pub returns-in_err-p : goal.returns-in_err-p
returns-in_err-p c =
    let p = err_from_is_err_and c.from_residual.result c.from_residual.ensures.1 in
    rw (p.1, p.2)
    (refused_with c.args.s.now c.args.table.now c.take_line.new.book c.take_line.new.signals c.take_line.new.out c.find-end.result c.take_line.result _ c.take_line.ensures c.in_err-p.was)

pub overflow_add-i : goal.overflow_add-i
overflow_add-i c = omega (arith, c.find-end.ensures.high)

pub loop-i-smaller : goal.loop-i-smaller
loop-i-smaller c = omega (arith, c.find-end.ensures.low, c.loop-i-test.true)

pub loop-i-preserved : goal.loop-i-preserved
loop-i-preserved c =
    looping_next c.loop-i.invariant c.take_line.new.book c.take_line.new.signals c.take_line.new.out c.find-end.result c.take_line.result _ c.take_line.ensures c.in_ok-p.was c.take_line.auto.book c.take_line.auto.signals c.take_line.auto.out

pub feed_waiting-requires : goal.feed_waiting-requires
feed_waiting-requires c =
    let all = waiting_ready c.loop-i.invariant.running in
    record { booked = all.0; waiting_ok = all.1.0; signals_in_bounds = all.1.1.0; feed_room_in_bounds = all.1.1.1 }

pub shape_of-book : goal.shape_of-book
shape_of-book c = c.feed_waiting.auto.book ∙ c.loop-i.invariant.book

pub shape_of-signals : goal.shape_of-signals
shape_of-signals c = c.loop-i.invariant.notes

pub shape_of-out : goal.shape_of-out
shape_of-out c = c.feed_waiting.auto.out ∙ c.loop-i.invariant.paper

pub returns : goal.returns
returns c =
    all-fed c.loop-i.invariant.running c.loop-i-test.false _ _ _ c.feed_waiting.ensures c.feed_waiting.auto.out
