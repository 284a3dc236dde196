-- Opens every definition of `utf8` and of what it leans on, for examples that compute. Assumes nothing.
use Rattle.text.proofs.Opened.{opened as opened-text}
use Rattle.utf8.specs.Alone.{text, alone}
use Rattle.utf8.specs.Utf8.{after, step, right, utf8}

unfoldable pub opened : Unit {0}
unfolding opened-text text alone after step right utf8
opened = tt
