-- Opens every definition of `table_layout` and of what it leans on, for examples that compute. Assumes nothing.
use Rattle.table.proofs.Opened.{opened as opened-table}
use Rattle.table_layout.specs.Build.{event_bytes, clause_bytes, word_bytes, settings_bytes, counts_bytes, places_bytes, counts_for, places_for, head_bytes, body_bytes, used_bytes, table_of}

unfoldable pub opened : Unit {0}
unfolding opened-table event_bytes clause_bytes word_bytes settings_bytes counts_bytes places_bytes counts_for places_for head_bytes body_bytes used_bytes table_of
opened = tt
