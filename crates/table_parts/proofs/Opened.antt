-- Opens every definition of `table_parts` and of what it leans on, for examples that compute. Assumes nothing.
use Rattle.table_layout.proofs.Opened.{opened as opened-layout}
use Rattle.table_wordbook.proofs.Opened.{opened as opened-wordbook}
use Rattle.table_limits.proofs.Opened.{opened as opened-limits}
use Rattle.table_parts.specs.Codes.{values_in, noted_all, numbers_of, values_noted, codes_of}
use Rattle.table_parts.specs.Draft.{word_row, clause_row, names_at, names_length, event_row, draft}

unfoldable pub opened : Unit {0}
unfolding opened-layout opened-wordbook opened-limits values_in noted_all numbers_of values_noted codes_of word_row clause_row names_at names_length event_row draft
opened = tt
