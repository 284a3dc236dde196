-- `double::is_finite` meets its contract. Assumes nothing.
use mathlib.Core.Path.{◌∙◌}
use Rattle.double.proofs.Tests.{finite_is}
use Rattle.double.proofs.is_finite.Goals as goal

pub returns : goal.returns
returns c = c.is_finite.ensures.value ∙ finite_is c.args.x
