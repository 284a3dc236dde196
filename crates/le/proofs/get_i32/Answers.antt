-- `le::get_i32` meets its contract. Assumes nothing.
use Rattle.std.proofs.Common.{rules}
use mir.Syntax.{w32}
use mir.Facts.{to_z-of_z}
use mathlib.Core.Path.{◌∙◌, ap}
use Rattle.le.specs.Le.{signed}
use Rattle.le.proofs.Signs.{signed_is}
use Rattle.le.proofs.get_i32.Goals as goal

pub returns : goal.returns
returns c = to_z-of_z {w = w32} (search rules) ∙ c.cast_signed.ensures ∙ signed_is w32 _ ∙ ap (signed 31) c.get_u32.ensures
