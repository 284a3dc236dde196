-- `text::contains` meets its contract: some element of the text is b. Assumes nothing.
use mathlib.Core.Path.{◌∙◌}
use Rattle.text.proofs.Parts.{has-any}
use Rattle.text.proofs.contains.Goals as goal

pub returns : goal.returns
returns c = c.contains.ensures.value ∙ has-any c.args.b c.args.s.now
