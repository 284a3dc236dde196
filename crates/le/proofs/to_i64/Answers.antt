-- `le::to_i64` meets its contract. Assumes nothing.
use Rattle.std.proofs.Common.{rules}
use mir.Syntax.{w64}
use mir.Facts.{to_z-of_z}
use mathlib.Core.Path.{◌∙◌}
use Rattle.le.proofs.Signs.{signed_is}
use Rattle.le.proofs.to_i64.Goals as goal

pub returns : goal.returns
returns c = to_z-of_z {w = w64} (search rules) ∙ c.cast_signed.ensures ∙ signed_is w64 _
