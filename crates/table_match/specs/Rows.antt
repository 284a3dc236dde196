-- What the rows of a table mean, and which of them the code asks for. Assumes nothing.
use Rattle.std.specs.Prelude.{ℕ, ◌+◌, ◌*◌, ◌≤◌, ◌≡◌, true, List, map, length, drop}
use Rattle.sheet.specs.Sheet.{Clause, Event}
use Rattle.table.specs.Layout.{word_length, counts_in, word_in, parts_in, word_text}
use Rattle.table.specs.Table.{code_ok, clause_ok, clause_of, event_of}
use Rattle.table.specs.declared.EventRow.{EventRow}
use Rattle.table.specs.declared.ClauseRow.{ClauseRow}

-- ---- words

-- the text of word number i
abbrev pub text_of : List ℕ → List ℕ → ℕ → List ℕ
text_of rows texts i = word_text texts (word_in (drop (word_length * i) rows))

-- word number i has a row, and its text lies within the texts
pub record WordAmong (rows texts : List ℕ) (i : ℕ) : Type 0 where
  pub row : word_length * i + word_length ≤ length rows
  pub text : (word_in (drop (word_length * i) rows)).at + (word_in (drop (word_length * i) rows)).len ≤ length texts

-- the texts of a table's keys and values
abbrev pub keys_of : List ℕ → List (List ℕ)
keys_of t = map (word_text (parts_in t).keytexts) (parts_in t).keys

abbrev pub values_of : List ℕ → List (List ℕ)
values_of t = map (word_text (parts_in t).valuetexts) (parts_in t).values

-- ---- clauses and events

abbrev pub clause_from : List ℕ → ClauseRow → Clause
clause_from t c = clause_of (keys_of t) (values_of t) c

abbrev pub clauses_of : List ℕ → List Clause
clauses_of t = map (clause_from t) (parts_in t).clauses

abbrev pub event_from : List ℕ → EventRow → Event
event_from t e = event_of (parts_in t).names (clauses_of t) e

-- what a table has of a code, of a clause, of an event
abbrev pub CodeIn : List ℕ → ℕ → Type 0
CodeIn t v = code_ok (counts_in t).values v ≡ true

abbrev pub ClauseIn : List ℕ → ClauseRow → Type 0
ClauseIn t c = clause_ok (counts_in t).keys (counts_in t).values c ≡ true

pub record EventIn (t : List ℕ) (e : EventRow) : Type 0 where
  pub clauses : e.first + e.count ≤ (counts_in t).clauses
