-- The tag of a signal. Assumes nothing.
use mathlib.Core.Path.{◌∙◌}
use Rattle.revise.proofs.Lines.{signal-begins}
use Rattle.revise_line.proofs.is_signal.Goals as goal

pub returns : goal.returns
returns c = c.is_tagged.ensures ∙ signal-begins _
