-- The length, the day, the clock, the offset and the space. Assumes nothing.
use Prim.Native.Nat.{◌+◌, ◌*◌}
use native.Mathlib.Omega.{arith}
use borrow.Author.Tests.{eq-eqb}
use Rattle.bar_line.specs.Line.{stamp_of}
use Rattle.bar_line_stamp.proofs.Times.{instant-is, offset-is}
use Rattle.bar_line_stamp.proofs.read_stamp.Goals as goal

pub returns : goal.returns
unfolding stamp_of
returns c =
    let day = c.in_ok-day.ensures in
    let clock = c.in_ok-clock.ensures in
    let offset = c.in_ok-offset.ensures in
    rw (
      instant-is (c.in_ok-day.day * 86_400 + c.in_ok-clock.clock) c.in_ok-offset.offset (omega arith) offset.small,
      offset-is c.in_ok-offset.offset offset.small,
      eq-eqb _ _ c.if-s-ne25.false,
      ← day.is,
      eq-eqb _ _ c.if-s-ne32.false,
      ← clock.is,
      ← offset.is,
    )
