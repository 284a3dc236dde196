-- `stop::put_stop` meets its contract: the whole part, then nothing, one decimal or two. Assumes nothing.
use Prim.Native.Nat.{◌/◌}
use native.Mathlib.Omega.{arith}
use Rattle.text_write.proofs.Written.{length_decimal}
use Rattle.stop.proofs.Writing.{put_none_behind, put_one_behind, put_two_behind}
use Rattle.stop.proofs.put_stop.Goals as goal

pub returns-then-f-eq0 : goal.returns-then-f-eq0
returns-then-f-eq0 c = put_none_behind c.args.h c.put_decimal-whole.ensures c.if-f-eq0.true

pub put_byte-point-requires : goal.put_byte-point-requires
put_byte-point-requires c =
    omega (arith, length_decimal (c.args.h / 100) (omega arith), c.put_decimal-whole.ensures.end, c.put_decimal-whole.ensures.kept)

pub put_byte-tenths-requires : goal.put_byte-tenths-requires
put_byte-tenths-requires c =
    omega (arith, length_decimal (c.args.h / 100) (omega arith), c.put_decimal-whole.ensures.end, c.put_decimal-whole.ensures.kept, c.put_byte-point.ensures.end, c.put_byte-point.ensures.kept)

pub returns-then-f-eq0-2 : goal.returns-then-f-eq0-2
returns-then-f-eq0-2 c =
    put_one_behind c.args.h c.put_decimal-whole.ensures c.if-f-eq0.false c.put_byte-point.ensures c.put_byte-tenths.ensures c.if-f-eq0-2.true

pub put_byte-requires : goal.put_byte-requires
put_byte-requires c =
    omega (arith, length_decimal (c.args.h / 100) (omega arith), c.put_decimal-whole.ensures.end, c.put_decimal-whole.ensures.kept, c.put_byte-point.ensures.end, c.put_byte-point.ensures.kept, c.put_byte-tenths.ensures.end, c.put_byte-tenths.ensures.kept)

pub returns : goal.returns
returns c =
    put_two_behind c.args.h c.put_decimal-whole.ensures c.if-f-eq0.false c.put_byte-point.ensures c.put_byte-tenths.ensures c.if-f-eq0-2.false c.put_byte.ensures
