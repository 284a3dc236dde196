-- Five fields, one behind another. Assumes nothing.
use mathlib.Core.Path.{◌∙◌}
use Rattle.std.proofs.Common.{rules, FitsSigned, w64}
use Rattle.std.proofs.lemmas.Int.{to_z-of_z}
use Rattle.run_fields.proofs.Short.{integer_as, short-more, short-one}
use Rattle.run_output.proofs.pair_numbers.Goals as goal

pub returns : goal.returns
returns c =
    let opened : FitsSigned w64 c.micros.result = search rules in
    let closed : FitsSigned w64 c.micros-2.result = search rules in
    let ids : FitsSigned w64 c.args.p.ids = search rules in
    short-more _ _ (integer_as (to_z-of_z w64 c.micros.result opened ∙ c.micros.ensures) c.integer_field-a.ensures)
    (short-more _ _ (integer_as (to_z-of_z w64 c.micros-2.result closed ∙ c.micros-2.ensures) c.integer_field-b.ensures)
    (short-more _ _ c.real_field-c.ensures
    (short-more _ _ c.real_field-d.ensures
    (short-one _ (integer_as (to_z-of_z w64 c.args.p.ids ids) c.integer_field.ensures)))))
