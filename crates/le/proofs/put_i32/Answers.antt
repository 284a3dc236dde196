-- `le::put_i32` meets its contract. Assumes nothing.
use mir.Syntax.{w32}
use mir.Facts.{to_z-of_z}
use Rattle.le.proofs.Signs.{bits_are}
use Rattle.le.proofs.put_i32.Goals as goal

pub returns : goal.returns
returns c = rw (c.cast_unsigned.ensures, to_z-of_z {w = w32} c.ranges.v, bits_are w32 c.args.v) at c.put_u32.ensures
