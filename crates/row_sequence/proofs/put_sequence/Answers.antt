-- The two parts, joined. Assumes nothing.
use native.Mathlib.Omega.{arith}
use Rattle.text.specs.Literal.{bytes, encoded}
use Rattle.row_sequence.proofs.Parts.{joined}
use Rattle.row_sequence.proofs.put_sequence.Goals as goal

pub put_description-p-requires : goal.put_description-p-requires
put_description-p-requires c = record { t_value = c.requires.t_value; named_in = c.requires.named_in.0; part_limit_in_bounds = omega arith }

pub put_description-requires : goal.put_description-requires
put_description-requires c = record { t_value = c.requires.t_value; named_in = c.requires.named_in.1; part_limit_in_bounds = omega (arith, c.put_part-q.ensures.end, c.put_part-q.ensures.kept, c.put_description-p.ensures.put.end, c.put_description-p.ensures.put.kept, c.put_description-p.ensures.short) }

pub returns : goal.returns
unfolding bytes encoded
returns c =
    joined c.put_description-p.ensures c.put_part-q.ensures c.put_description.ensures
