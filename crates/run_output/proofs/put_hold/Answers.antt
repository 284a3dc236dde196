-- The tag, the local time, the position, the price and the yield. Assumes nothing.
use mathlib.Core.Path.{◌∙◌}
use Rattle.std.proofs.Common.{rules, FitsSigned, w32, w64}
use Rattle.std.proofs.lemmas.Int.{to_z-of_z}
use Rattle.text.specs.Literal.{bytes, encoded}
use Rattle.position.specs.Run.{hold_line}
use Rattle.run_fields.proofs.Lines.{put_field}
use Rattle.run_fields.proofs.Short.{integer_as}
use Rattle.run_fields.proofs.Signed.{widened}
use Rattle.run_output.proofs.put_hold.Goals as goal

pub returns : goal.returns
unfolding bytes encoded hold_line
returns c =
    let local : FitsSigned w64 c.micros.result = search rules in
    let pos : FitsSigned w32 c.args.o.pos = search rules in
    put_field (bytes "H") _ _ c.text_field-a.ensures.put
    (put_field _ _ _ (integer_as (to_z-of_z w64 c.micros.result local ∙ c.micros.ensures) c.integer_field-b.ensures).put
    (put_field _ _ _ (integer_as (widened _ pos).1 c.integer_field-c.ensures).put
    (put_field _ _ _ c.real_field-d.ensures.put
    c.last_yield.ensures)))
