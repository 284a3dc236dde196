-- A double's bits, or the NaN that 0 / 0 gives. Assumes nothing.
use mathlib.Core.Path.{◌∙◌, sym}
use Rattle.le.proofs.Reals.{value-is, nan_is}
use Rattle.run_input.proofs.double_of.Goals as goal

pub returns-in-Some : goal.returns-in-Some
returns-in-Some c = value-is _ (sym c.real_of.ensures ∙ c.in-Some.is)

pub returns-in-None : goal.returns-in-None
returns-in-None c = nan_is _ (sym c.real_of.ensures ∙ c.in-None.is)
