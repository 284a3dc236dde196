-- Opens every definition of `history` and of what it leans on, for examples that compute. Assumes nothing.
use Rattle.row.proofs.Opened.{opened as opened-row}
use Rattle.row_blocks.specs.Blocks.{hold_row_bytes, pair_row_bytes, fitting, block_do, counts_do}
use Rattle.history.specs.Calls.{book_after, done_from}
use Rattle.history.specs.Survivors.{saved_as, ledger_from, survivors}
use Rattle.history.specs.Demand3.{doubles, Demand3}

unfoldable pub opened : Unit {0}
unfolding opened-row hold_row_bytes pair_row_bytes fitting block_do counts_do book_after done_from saved_as ledger_from survivors doubles Demand3
opened = tt
