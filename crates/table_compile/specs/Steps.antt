-- What is known when a sheet was read. Assumes nothing.
use Rattle.std.specs.Prelude.{ℕ, ◌*◌, ◌≡◌, true, List, length}
use Rattle.sheet.specs.Sheet.{event_limit, clause_limit}
use Rattle.sheet.specs.Places.{clause_numbers, event_numbers, sheet_at, SheetOk}
use Rattle.sheet.specs.declared.SheetAt.{SheetAt}
use Rattle.table_limits.specs.Fine.{fine_sheet}

-- es and cs have the numbers of a sheet that s says
pub record SheetDone (s es cs : List ℕ) (a : SheetAt) : Type 0 where
  pub ok : SheetOk s es cs a
  pub fine : fine_sheet (sheet_at s es cs a) ≡ true
  pub events-room : length es ≡ event_numbers * event_limit
  pub clauses-room : length cs ≡ clause_numbers * clause_limit
