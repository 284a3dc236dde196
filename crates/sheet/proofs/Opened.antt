-- Opens every definition of `sheet` and of what it leans on, for examples that compute. Assumes nothing.
use Rattle.le.proofs.Opened.{opened as opened-le}
use Rattle.list.proofs.Opened.{opened as opened-list}
use Rattle.stop.proofs.Opened.{opened as opened-stop}
use Rattle.operate.proofs.Opened.{opened as opened-operate}
use Rattle.signal.proofs.Opened.{opened as opened-signal}
use Rattle.sheet.specs.Places.{clause_at, event_at, clauses_before, sheet_at}
use Rattle.sheet.specs.Read.{position_line, event_line, add_clause, clause_line, later_line, read_sheet}
use Rattle.sheet.specs.Sheet.{clause_count}

unfoldable pub opened : Unit {0}
unfolding opened-le opened-list opened-stop opened-operate opened-signal clause_at event_at clauses_before sheet_at position_line event_line add_clause clause_line later_line read_sheet clause_count
opened = tt
