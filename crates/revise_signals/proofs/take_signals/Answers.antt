-- `Taking` is the invariant: the S lines before `at` are copied. Assumes nothing.
use Rattle.revise_signals.proofs.Taking.{taking_first, taking_last, taking_stop, taking_many, taking_next, tagged}
use native.Mathlib.Omega.{arith}
use Rattle.text.proofs.Tested.{no, yes}
use Rattle.revise_signals.proofs.take_signals.Goals as goal

pub loop-at-init : goal.loop-at-init
loop-at-init c = taking_first c.requires.from_in_bounds c.requires.signals_len

pub overflow_sub-end : goal.overflow_sub-end
overflow_sub-end c = tagged c.loop-at.invariant c.line_end-end.ensures (yes c.is_signal.ensures c.if-not-is_signal.false)

pub returns-then-room-size : goal.returns-then-room-size
returns-then-room-size c =
    taking_many c.loop-at.invariant c.line_end-end.ensures (yes c.is_signal.ensures c.if-not-is_signal.false)
    (omega (arith, c.if-room-size.true, c.loop-at.invariant.room, c.requires.signals_len))

pub put_part-size-requires-clause-part : goal.put_part-size-requires-clause-part
put_part-size-requires-clause-part c =
    let two = tagged c.loop-at.invariant c.line_end-end.ensures (yes c.is_signal.ensures c.if-not-is_signal.false) in
    record { order = two; within = c.line_end-end.ensures.high }

pub loop-at-preserved : goal.loop-at-preserved
loop-at-preserved c =
    taking_next c.loop-at.invariant c.line_end-end.ensures (yes c.is_signal.ensures c.if-not-is_signal.false) c.put_part-size.ensures

pub returns-then-not-is_signal : goal.returns-then-not-is_signal
returns-then-not-is_signal c = taking_stop c.loop-at.invariant c.line_end-end.ensures (no c.is_signal.ensures c.if-not-is_signal.true)

pub returns-after-loop-at : goal.returns-after-loop-at
returns-after-loop-at c = taking_last c.loop-at.invariant c.loop-at-test.false
