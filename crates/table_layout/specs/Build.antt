-- The bytes of a table's parts: "a header of counts and offsets, then events, clauses, keys, values and texts without gaps, zeros after".
-- Assumes nothing.
use Rattle.std.specs.Prelude.{ℕ, ◌+◌, ◌-◌, ◌*◌, length, replicate}
use mathlib.Core.List.{List, ◌++◌, flat_map}
use Rattle.le.specs.Field.{put16, put32}
use Rattle.table.specs.Layout.{table_length, head_length, event_length, clause_length, word_length, layout_number, Parts}
use Rattle.table.specs.declared.Settings.{Settings}
use Rattle.table.specs.declared.Counts.{Counts}
use Rattle.table.specs.declared.Places.{Places}
use Rattle.table.specs.declared.EventRow.{EventRow}
use Rattle.table.specs.declared.ClauseRow.{ClauseRow}
use Rattle.table.specs.declared.WordRow.{WordRow}

-- ---- rows

unfoldable pub event_bytes : EventRow → List ℕ
event_bytes e = put16 e.kind ++ put16 e.operate ++ put16 e.at ++ put16 e.len ++ put16 e.first ++ put16 e.count

unfoldable pub clause_bytes : ClauseRow → List ℕ
clause_bytes c = put16 c.kind ++ put16 c.key ++ put16 c.v1 ++ put16 c.v2 ++ put16 c.v3 ++ put16 c.score

unfoldable pub word_bytes : WordRow → List ℕ
word_bytes w = put16 w.at ++ put16 w.len ++ put16 w.rank ++ put16 w.order

-- all rows, one after another
abbrev pub row_bytes : {X : Type 0} → (X → List ℕ) → List X → List ℕ
row_bytes f xs = flat_map f xs

-- ---- the header

unfoldable pub settings_bytes : Settings → List ℕ
settings_bytes s = put32 s.interval ++ put32 s.timeout ++ put32 s.stop ++ put16 s.t0 ++ put16 s.evening

unfoldable pub counts_bytes : Counts → List ℕ
counts_bytes c = put32 c.events ++ put32 c.clauses ++ put32 c.keys ++ put32 c.values ++ put32 c.name ++ put32 c.symbol

unfoldable pub places_bytes : Places → List ℕ
places_bytes q =
    put32 q.events ++ put32 q.clauses ++ put32 q.keys ++ put32 q.values
    ++ put32 q.texts ++ put32 q.names ++ put32 q.keytexts ++ put32 q.valuetexts ++ put32 q.used

-- how many rows the parts have, and how long the position's texts are
unfoldable pub counts_for : Parts → Counts
counts_for p =
    record {
      events = length p.events;
      clauses = length p.clauses;
      keys = length p.keys;
      values = length p.values;
      name = length p.name;
      symbol = length p.symbol;
    }

-- "offsets follow each other": by the counts, and by how long the events' names, the keys and the values are
abbrev pub places_of : Counts → ℕ → ℕ → ℕ → Places
places_of c names keytexts valuetexts =
    let clauses = head_length + event_length * c.events in
    let keys = clauses + clause_length * c.clauses in
    let values = keys + word_length * c.keys in
    let texts = values + word_length * c.values in
    let first = texts + c.name + c.symbol in
    record {
      events = head_length;
      clauses = clauses;
      keys = keys;
      values = values;
      texts = texts;
      names = first;
      keytexts = first + names;
      valuetexts = first + names + keytexts;
      used = first + names + keytexts + valuetexts;
    }

unfoldable pub places_for : Parts → Places
places_for p = places_of (counts_for p) (length p.names) (length p.keytexts) (length p.valuetexts)

-- ---- the table

unfoldable pub head_bytes : Parts → List ℕ
head_bytes p = put32 layout_number ++ settings_bytes p.settings ++ counts_bytes (counts_for p) ++ places_bytes (places_for p)

unfoldable pub body_bytes : Parts → List ℕ
body_bytes p =
    row_bytes event_bytes p.events ++ row_bytes clause_bytes p.clauses ++ row_bytes word_bytes p.keys ++ row_bytes word_bytes p.values
    ++ p.name ++ p.symbol ++ p.names ++ p.keytexts ++ p.valuetexts

unfoldable pub used_bytes : Parts → List ℕ
used_bytes p = head_bytes p ++ body_bytes p

-- "zeros after", up to 32,768 bytes
abbrev pub zeros_after : Parts → ℕ
zeros_after p = table_length - length (used_bytes p)

unfoldable pub table_of : Parts → List ℕ
table_of p = used_bytes p ++ replicate (zeros_after p) 0
