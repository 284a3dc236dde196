-- Opens every definition of what `table_match` leans on, for examples that compute; its own definitions are open. Assumes nothing.
use Rattle.event.proofs.Opened.{opened as opened-event}
use Rattle.table.proofs.Opened.{opened as opened-table}

unfoldable pub opened : Unit {0}
unfolding opened-event opened-table
opened = tt
