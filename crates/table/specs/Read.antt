-- What the readers of rows give: row number i, its fields within 16 bits; and what is known behind a header that is right. Assumes nothing.
use Rattle.std.specs.Prelude.{ℕ, ◌+◌, ◌*◌, ◌<◌, ◌≤◌, ◌≡◌, List, length, drop}
use Rattle.sheet.specs.Sheet.{event_limit, clause_limit, name_limit}
use Rattle.table.specs.Layout.{table_length, head_length, event_length, clause_length, word_length, counts_in, places_in, event_in, clause_in, word_in}
use Rattle.table.specs.declared.Counts.{Counts}
use Rattle.table.specs.declared.Places.{Places}
use Rattle.table.specs.declared.EventRow.{EventRow}
use Rattle.table.specs.declared.ClauseRow.{ClauseRow}
use Rattle.table.specs.declared.WordRow.{WordRow}

-- r is event number i of the rows l
pub record EventAt (l : List ℕ) (i : ℕ) (r : EventRow) : Type 0 where
  pub is : r ≡ event_in (drop (event_length * i) l)
  pub kind : r.kind < 65536
  pub operate : r.operate < 65536
  pub at : r.at < 65536
  pub len : r.len < 65536
  pub first : r.first < 65536
  pub count : r.count < 65536

-- r is clause number i of the rows l
pub record ClauseAt (l : List ℕ) (i : ℕ) (r : ClauseRow) : Type 0 where
  pub is : r ≡ clause_in (drop (clause_length * i) l)
  pub kind : r.kind < 65536
  pub key : r.key < 65536
  pub v1 : r.v1 < 65536
  pub v2 : r.v2 < 65536
  pub v3 : r.v3 < 65536
  pub score : r.score < 65536

-- r is key or value number i of the rows l
pub record WordAt (l : List ℕ) (i : ℕ) (r : WordRow) : Type 0 where
  pub is : r ≡ word_in (drop (word_length * i) l)
  pub at : r.at < 65536
  pub len : r.len < 65536
  pub rank : r.rank < 65536
  pub order : r.order < 65536

-- the header of t is right, and these are its counts and places
pub record Headed (t : List ℕ) (c : Counts) (p : Places) : Type 0 where
  pub size : length t ≡ table_length
  pub counts : c ≡ counts_in t
  pub places : p ≡ places_in t
  pub events-few : c.events ≤ event_limit
  pub clauses-few : c.clauses ≤ clause_limit
  pub keys-few : c.keys ≤ clause_limit
  pub values-few : c.values ≤ 3 * clause_limit
  pub name-short : c.name ≤ name_limit
  pub symbol-short : c.symbol ≤ name_limit
  pub events : p.events ≡ head_length
  pub clauses : p.clauses ≡ p.events + event_length * c.events
  pub keys : p.keys ≡ p.clauses + clause_length * c.clauses
  pub values : p.values ≡ p.keys + word_length * c.keys
  pub texts : p.texts ≡ p.values + word_length * c.values
  pub names : p.names ≡ p.texts + c.name + c.symbol
  pub keytexts : p.names ≤ p.keytexts
  pub valuetexts : p.keytexts ≤ p.valuetexts
  pub used : p.valuetexts ≤ p.used
  pub within : p.used ≤ length t
