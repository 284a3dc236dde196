-- Opens every definition of `event` and of what it leans on, for examples that compute. Assumes nothing.
use Rattle.sheet.proofs.Opened.{opened as opened-sheet}
use Rattle.event.specs.Match.{value_at, meets, holds, of_kind, matches, first_of, first_match}
use Rattle.event.specs.Signals.{signal_line, read_signals}

unfoldable pub opened : Unit {0}
unfolding opened-sheet value_at meets holds of_kind matches first_of first_match signal_line read_signals
opened = tt
