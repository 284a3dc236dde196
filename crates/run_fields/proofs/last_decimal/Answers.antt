-- The number and its LF. Assumes nothing.
use native.Mathlib.Omega.{arith}
use Rattle.text_write.proofs.Written.{length_decimal}
use Rattle.run_fields.proofs.Lines.{put_last}
use Rattle.run_fields.proofs.last_decimal.Goals as goal

pub put_byte-requires : goal.put_byte-requires
put_byte-requires c =
    omega (arith, length_decimal c.args.v (omega arith), c.put_decimal-end.ensures.end, c.put_decimal-end.ensures.kept)

pub returns : goal.returns
returns c = put_last _ c.put_decimal-end.ensures c.put_byte.ensures
