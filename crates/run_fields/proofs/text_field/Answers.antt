-- The part and its `|`. Assumes nothing.
use native.Mathlib.Omega.{arith}
use Rattle.run_fields.proofs.Short.{part_field, part_end}
use Rattle.run_fields.proofs.text_field.Goals as goal

pub put_byte-requires : goal.put_byte-requires
put_byte-requires c =
    omega (arith, part_end c.requires.part c.put_part-end.ensures, c.put_part-end.ensures.kept)

pub returns : goal.returns
returns c =
    part_field c.requires.part c.put_part-end.ensures c.put_byte.ensures
