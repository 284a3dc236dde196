-- What the check of events knows and answers on its way, row by row. Assumes nothing.
use Rattle.std.specs.Prelude.{ℕ, ◌+◌, Bool, List, [], ◌∷◌, leb, eqb, length}
use Rattle.list.specs.Numbered.{rows}
use Rattle.table.specs.Layout.{event_length, event_in}
use Rattle.table.specs.Table.{event_ok}
use Rattle.table.specs.declared.EventRow.{EventRow}

-- the first n rows of l
abbrev pub event_rows : ℕ → List ℕ → List EventRow
event_rows n l = rows event_in event_length n l

-- what is asked of an event whose name must start at f and whose clauses at g
abbrev pub event_asked : List ℕ → EventRow → ℕ → ℕ → List Bool
event_asked names e f g = eqb e.at f ∷ eqb e.first g ∷ leb (e.at + e.len) (length names) ∷ event_ok names e ∷ []
