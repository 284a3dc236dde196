-- The number and its `|`. Assumes nothing.
use mathlib.Core.Path.{ap}
use mir.Facts.{to_z-of_z}
use Rattle.text.specs.Number.{integer_of}
use Rattle.run_fields.proofs.Short.{short_as, short_field}
use Rattle.run_fields.proofs.integer_field.Goals as goal

pub returns : goal.returns
returns c =
    short_field (short_as (ap integer_of (to_z-of_z c.ranges.v)) c.put_integer-end.ensures) c.put_byte.ensures
