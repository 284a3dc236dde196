-- `double::days` meets its contract. Assumes nothing.
use mathlib.Core.Path.{ap, ap₂}
use lib.Ieee.{binary64, div, of_int}
use mir.Syntax.{w64}
use mir.Facts.{to_z-of_z}
use Rattle.double.specs.Double.{days_of}
use Rattle.double.proofs.Constants.{day_is}
use Rattle.double.proofs.days.Goals as goal

pub returns : goal.returns
unfolding days_of
returns c = ap₂ (div binary64) (ap (of_int binary64) (to_z-of_z {w = w64} c.ranges.seconds)) day_is
