-- `le::put_i64` meets its contract. Assumes nothing.
use mir.Syntax.{w64}
use mir.Facts.{to_z-of_z}
use Rattle.le.proofs.Signs.{bits_are}
use Rattle.le.proofs.put_i64.Goals as goal

pub returns : goal.returns
returns c = rw (c.cast_unsigned.ensures, to_z-of_z {w = w64} c.ranges.v, bits_are w64 c.args.v) at c.put_u64.ensures
