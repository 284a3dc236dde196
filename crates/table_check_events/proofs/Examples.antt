-- An event that is right, and events that stop the walk. Assumes nothing.
use mathlib.Core.Bool.{true, false}
use mathlib.Core.Path.{◌≡◌, refl}
use Rattle.text.specs.Conditions.{all_of}
use Rattle.text.specs.Literal.{bytes}
use Rattle.table.proofs.Opened.{opened}
use Rattle.table.specs.declared.EventRow.{EventRow}
use Rattle.table_check_events.specs.Check.{event_asked}

abbrev go : EventRow
go = record { kind = 0; operate = 3; at = 0; len = 2; first = 0; count = 1 }

-- all is right; a name that starts too late, one that is too long, clauses that start too late
events : (all_of (event_asked (bytes "goout") go 0 0) ≡ true) × (all_of (event_asked (bytes "goout") go 1 0) ≡ false)
    × (all_of (event_asked (bytes "g") go 0 0) ≡ false) × (all_of (event_asked (bytes "goout") go 0 1) ≡ false)
unfolding opened
events = (refl, refl, refl, refl)
