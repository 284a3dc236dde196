-- Four fields, one behind another. Assumes nothing.
use Prim.Native.Nat.{◌+◌}
use native.Mathlib.Omega.{arith}
use mathlib.Core.Path.{refl}
use Rattle.text.specs.Literal.{bytes, encoded}
use Rattle.run_fields.proofs.Short.{short_wider, short_field, part_as, short-more, short-one}
use Rattle.run_output.proofs.pair_names.Goals as goal

pub returns : goal.returns
unfolding bytes encoded
returns c =
    let a = c.args in
    short_wider (a.p.symbol + a.p.mark + 6)
    (short-more (bytes "R") _ c.text_field-a.ensures
    (short-more _ _ (part_as a.buffer.now 0 a.p.symbol a.p.symbol (omega arith) c.text_field-b.ensures)
    (short-more _ _ (part_as a.buffer.now a.p.symbol a.p.mark _ refl c.text_field-c.ensures)
    (short-one _ (short_field c.put_side-d.ensures c.put_byte.ensures)))))
    (omega arith)
