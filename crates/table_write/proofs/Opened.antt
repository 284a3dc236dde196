-- Opens every definition that `table_write` leans on, for examples that compute. Assumes nothing.
use Rattle.table_parts.proofs.Opened.{opened as opened-parts}

unfoldable pub opened : Unit {0}
unfolding opened-parts
opened = tt
