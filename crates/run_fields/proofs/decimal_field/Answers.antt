-- The number and its `|`. Assumes nothing.
use native.Mathlib.Omega.{arith}
use Rattle.text_write.proofs.Written.{length_decimal}
use Rattle.run_fields.proofs.Short.{field_put}
use Rattle.run_fields.proofs.decimal_field.Goals as goal

pub put_byte-requires : goal.put_byte-requires
put_byte-requires c =
    omega (arith, length_decimal c.args.v (omega arith), c.put_decimal-end.ensures.end, c.put_decimal-end.ensures.kept)

pub returns : goal.returns
returns c =
    field_put 20 (length_decimal c.args.v (omega arith)) c.put_decimal-end.ensures c.put_byte.ensures
