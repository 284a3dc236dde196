-- `table_check::vocabulary_ok` meets its contract. Assumes nothing.
use mathlib.Core.Path.{◌∙◌}
use Rattle.table_check.proofs.Parts.{keytexts_lent, valuetexts_lent, vocabulary_keys, vocabulary_values}
use Rattle.table_check.proofs.vocabulary_ok.Goals as goal

pub words_ok-requires-clause-texts_value : goal.words_ok-requires-clause-texts_value
words_ok-requires-clause-texts_value c = keytexts_lent c.requires.headed c.requires.t_value

pub words_ok-requires-then-words_ok-clause-texts_value : goal.words_ok-requires-then-words_ok-clause-texts_value
words_ok-requires-then-words_ok-clause-texts_value c = valuetexts_lent c.requires.headed c.requires.t_value

pub returns-then-words_ok : goal.returns-then-words_ok
returns-then-words_ok c = vocabulary_values c.requires.headed c.words_ok.ensures c.if-words_ok.true c.words_ok-then-words_ok.ensures

pub returns-else-words_ok : goal.returns-else-words_ok
returns-else-words_ok c = c.if-words_ok.false ∙ vocabulary_keys c.requires.headed c.words_ok.ensures c.if-words_ok.false
