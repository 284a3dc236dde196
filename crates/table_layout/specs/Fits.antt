-- What is asked of a table's parts so that their bytes can be read back: numbers that fit their fields, counts, settings and texts within the limits. Assumes nothing.
use Rattle.std.specs.Prelude.{ℕ, ◌+◌, ◌*◌, ◌^◌, ◌≤◌, ◌<◌, true, List, ◌≡◌, length, get_or}
use Rattle.utf8.specs.Alone.{text_limit}
use Rattle.sheet.specs.Sheet.{event_limit, clause_limit, name_limit}
use Rattle.table.specs.Layout.{Parts}
use Rattle.table.specs.Table.{settings_ok}
use Rattle.table.specs.declared.Settings.{Settings}
use Rattle.table.specs.declared.Counts.{Counts}
use Rattle.table.specs.declared.Places.{Places}
use Rattle.table.specs.declared.EventRow.{EventRow}
use Rattle.table.specs.declared.ClauseRow.{ClauseRow}
use Rattle.table.specs.declared.WordRow.{WordRow}

-- ---- the header: 32 bits, and twice 16

pub record SettingsFit (s : Settings) : Type 0 where
  pub interval : s.interval < 2 ^ 32
  pub timeout : s.timeout < 2 ^ 32
  pub stop : s.stop < 2 ^ 32
  pub t0 : s.t0 < 65536
  pub evening : s.evening < 65536

pub record CountsFit (c : Counts) : Type 0 where
  pub events : c.events < 2 ^ 32
  pub clauses : c.clauses < 2 ^ 32
  pub keys : c.keys < 2 ^ 32
  pub values : c.values < 2 ^ 32
  pub name : c.name < 2 ^ 32
  pub symbol : c.symbol < 2 ^ 32

pub record PlacesFit (q : Places) : Type 0 where
  pub events : q.events < 2 ^ 32
  pub clauses : q.clauses < 2 ^ 32
  pub keys : q.keys < 2 ^ 32
  pub values : q.values < 2 ^ 32
  pub texts : q.texts < 2 ^ 32
  pub names : q.names < 2 ^ 32
  pub keytexts : q.keytexts < 2 ^ 32
  pub valuetexts : q.valuetexts < 2 ^ 32
  pub used : q.used < 2 ^ 32

-- ---- rows: 16 bits

pub record EventFits (e : EventRow) : Type 0 where
  pub kind : e.kind < 65536
  pub operate : e.operate < 65536
  pub at : e.at < 65536
  pub len : e.len < 65536
  pub first : e.first < 65536
  pub count : e.count < 65536

pub record ClauseFits (c : ClauseRow) : Type 0 where
  pub kind : c.kind < 65536
  pub key : c.key < 65536
  pub v1 : c.v1 < 65536
  pub v2 : c.v2 < 65536
  pub v3 : c.v3 < 65536
  pub score : c.score < 65536

pub record WordFits (w : WordRow) : Type 0 where
  pub at : w.at < 65536
  pub len : w.len < 65536
  pub rank : w.rank < 65536
  pub order : w.order < 65536

-- each element of a list has it, by its number
abbrev pub AllAt : {X : Type 0} → (X → Type 0) → List X → Type 0
AllAt {X} P xs = (i : ℕ) (d : X) → i < length xs → P (get_or xs i d)

-- ---- the parts

pub record Sized (p : Parts) : Type 0 where
  pub settings : settings_ok p.settings ≡ true
  pub events : length p.events ≤ event_limit
  pub clauses : length p.clauses ≤ clause_limit
  pub keys : length p.keys ≤ clause_limit
  pub values : length p.values ≤ 3 * clause_limit
  pub name : length p.name ≤ name_limit
  pub symbol : length p.symbol ≤ name_limit
  pub texts : length p.name + length p.symbol + length p.names + length p.keytexts + length p.valuetexts ≤ text_limit
  pub event_rows : AllAt EventFits p.events
  pub clause_rows : AllAt ClauseFits p.clauses
  pub key_rows : AllAt WordFits p.keys
  pub value_rows : AllAt WordFits p.values
