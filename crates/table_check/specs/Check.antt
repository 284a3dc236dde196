-- What the table check answers on its way, part by part. Assumes nothing.
use Rattle.std.specs.Prelude.{Bool, [], ◌∷◌, length}
use Rattle.text.specs.Conditions.{all_of}
use Rattle.table_words.specs.Words.{key_parts, value_parts}
use Rattle.table.specs.Layout.{Parts}
use Rattle.table.specs.Table.{events_ok, clauses_ok, words_ok}

unfoldable pub rows_ok : Parts → Bool
rows_ok p = all_of (events_ok p.names (length p.clauses) p.events ∷ clauses_ok (length p.keys) (length p.values) p.clauses ∷ [])

unfoldable pub vocabulary_ok : Parts → Bool
vocabulary_ok p = all_of (words_ok key_parts p.keytexts p.keys ∷ words_ok value_parts p.valuetexts p.values ∷ [])
