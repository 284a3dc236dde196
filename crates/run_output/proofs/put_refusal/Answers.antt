-- The tag and the number. Assumes nothing.
use native.Mathlib.Omega.{arith}
use Rattle.text.specs.Literal.{bytes, encoded}
use Rattle.text_write.proofs.Written.{length_decimal}
use Rattle.run_fields.proofs.Lines.{put_last, put_field}
use Rattle.run_output.proofs.put_refusal.Goals as goal

pub put_byte-requires : goal.put_byte-requires
put_byte-requires c =
    omega (arith, length_decimal c.args.number (omega arith), c.put_decimal-b.ensures.end, c.put_decimal-b.ensures.kept, c.text_field-a.ensures.short, c.text_field-a.ensures.put.kept)

pub returns : goal.returns
unfolding bytes encoded
returns c =
    put_field (bytes "E") _ _ c.text_field-a.ensures.put (put_last _ c.put_decimal-b.ensures c.put_byte.ensures)
