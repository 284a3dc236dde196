-- The local time of an instant below 2 ^ 61 is below 2 ^ 62, as its day asks. Assumes nothing.
use mathlib.Core.Path.{ap, ◌∙◌}
use mir.Syntax.{w32}
use mir.Val.{SFits}
use mir.Facts.{to_z-of_z}
use Rattle.bar.specs.Time.{local_time}
use Rattle.bar.proofs.Steps.{local_small}
use Rattle.test_vectors_numbers.proofs.time.Goals as goal

pub day-requires : goal.day-requires
day-requires g c =
    let fits : SFits w32 c.offset-offset.result = record { sfits = c.offset-offset.type_inv } in
    rw (c.local-local.ensures ∙ ap (local_time _) (to_z-of_z {w = w32} fits)) (local_small _ _ c.instant-instant.ensures fits)
