-- Opens every definition of `row` and of what it leans on, for examples that compute. Assumes nothing.
use Rattle.book.proofs.Opened.{opened as opened-book}
use Rattle.row.specs.Calls.{pair_do, hold_do, event_name_do}

unfoldable pub opened : Unit {0}
unfolding opened-book pair_do hold_do event_name_do
opened = tt
