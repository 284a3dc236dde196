-- Opens every definition of `table` and of what it leans on, for examples that compute. Assumes nothing.
use Rattle.list.proofs.Opened.{opened as opened-list}
use Rattle.le.proofs.Opened.{opened as opened-le}
use Rattle.sheet.proofs.Opened.{opened as opened-sheet}
use Rattle.table_words.proofs.Opened.{opened as opened-words}
use Rattle.table.specs.Compile.{compile_do}
use Rattle.table.specs.Layout.{layout_in, settings_in, counts_in, places_in, event_in, clause_in, word_in, parts_in, event_text, word_text}
use Rattle.table.specs.Table.{settings_ok, counts_ok, places_ok, head_ok, follow, event_ok, events_ok, clause_ok, value_uses, in_order, clauses_ok, words_ok, parts_ok, is_table, clause_of, event_of, sheet_of, read_table}

unfoldable pub opened : Unit {0}
unfolding opened-list opened-le opened-sheet opened-words compile_do layout_in settings_in counts_in places_in event_in clause_in word_in parts_in event_text word_text settings_ok counts_ok places_ok head_ok follow event_ok events_ok clause_ok value_uses in_order clauses_ok words_ok parts_ok is_table clause_of event_of sheet_of read_table
opened = tt
