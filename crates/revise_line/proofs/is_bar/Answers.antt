-- The tag of a bar. Assumes nothing.
use mathlib.Core.Path.{◌∙◌}
use Rattle.revise.proofs.Lines.{bar-begins}
use Rattle.revise_line.proofs.is_bar.Goals as goal

pub returns : goal.returns
returns c = c.is_tagged.ensures ∙ bar-begins _
