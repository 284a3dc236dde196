-- A time in range has a wall clock whose day is in range. Assumes nothing.
use mathlib.Core.Path.{◌≡◌, ap, ◌∙◌}
use Rattle.std.proofs.Common.{rules, FitsSigned, w32}
use mir.Facts.{to_z-of_z}
use Rattle.bar.specs.Time.{local_time}
use Rattle.bar.specs.Bar.{local_of}
use Rattle.bar.proofs.Ranges.{wall_small}
use Rattle.position_machine.proofs.step.local_day.Goals as goal

pub day-requires : goal.day-requires
day-requires c =
    let fits : FitsSigned w32 c.args.t.offset = search rules in
    let wall : c.local.result.0 ≡ (local_of c.args.t).0 = c.local.ensures ∙ ap (local_time c.args.t.instant.0) (to_z-of_z {w = w32} fits) in
    rw wall (wall_small c.args.t c.requires fits)
