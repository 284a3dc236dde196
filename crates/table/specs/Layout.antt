-- The layout of a table: "a header of counts and offsets, then events, clauses, keys, values and texts without gaps, zeros after".
-- A header of 80 bytes, rows of 16-bit numbers, then texts; all little-endian. Assumes nothing.
use Rattle.std.specs.Prelude.{ℕ, ◌+◌, ◌-◌, List}
use Rattle.list.specs.Numbered.{rows}
use Rattle.le.specs.Le.{part}
use Rattle.le.specs.Field.{u16, u32}
use Rattle.table.specs.declared.Settings.{Settings}
use Rattle.table.specs.declared.Counts.{Counts}
use Rattle.table.specs.declared.Places.{Places}
use Rattle.table.specs.declared.EventRow.{EventRow}
use Rattle.table.specs.declared.ClauseRow.{ClauseRow}
use Rattle.table.specs.declared.WordRow.{WordRow}

-- "a 32,768-byte table"
abbrev pub table_length : ℕ
table_length = 32768

abbrev pub head_length : ℕ
head_length = 80

abbrev pub event_length : ℕ
event_length = 12

abbrev pub clause_length : ℕ
clause_length = 12

abbrev pub word_length : ℕ
word_length = 8

-- ---- the header

-- The number with which each table of this layout begins. It is above every interval, with which a table of the layout before began: its
-- stops were whole basis points.
abbrev pub layout_number : ℕ
layout_number = 0xff00_0002

unfoldable pub layout_in : List ℕ → ℕ
layout_in t = u32 t 0

unfoldable pub settings_in : List ℕ → Settings
settings_in t = record { interval = u32 t 4; timeout = u32 t 8; stop = u32 t 12; t0 = u16 t 16; evening = u16 t 18 }

unfoldable pub counts_in : List ℕ → Counts
counts_in t = record { events = u32 t 20; clauses = u32 t 24; keys = u32 t 28; values = u32 t 32; name = u32 t 36; symbol = u32 t 40 }

unfoldable pub places_in : List ℕ → Places
places_in t =
    record {
      events = u32 t 44;
      clauses = u32 t 48;
      keys = u32 t 52;
      values = u32 t 56;
      texts = u32 t 60;
      names = u32 t 64;
      keytexts = u32 t 68;
      valuetexts = u32 t 72;
      used = u32 t 76;
    }

-- ---- rows: the one at the start of l

unfoldable pub event_in : List ℕ → EventRow
event_in l = record { kind = u16 l 0; operate = u16 l 2; at = u16 l 4; len = u16 l 6; first = u16 l 8; count = u16 l 10 }

unfoldable pub clause_in : List ℕ → ClauseRow
clause_in l = record { kind = u16 l 0; key = u16 l 2; v1 = u16 l 4; v2 = u16 l 6; v3 = u16 l 8; score = u16 l 10 }

unfoldable pub word_in : List ℕ → WordRow
word_in l = record { at = u16 l 0; len = u16 l 2; rank = u16 l 4; order = u16 l 6 }

-- ---- the parts of a table

-- The events' names stand one after another in `names`, the keys in `keytexts`, the values in `valuetexts`; a row's `at` counts from
-- the start of its own texts.
pub record Parts : Type 0 where
  pub settings : Settings
  pub events : List EventRow
  pub clauses : List ClauseRow
  pub keys : List WordRow
  pub values : List WordRow
  pub name : List ℕ
  pub symbol : List ℕ
  pub names : List ℕ
  pub keytexts : List ℕ
  pub valuetexts : List ℕ

-- the bytes from..to
abbrev pub between : List ℕ → ℕ → ℕ → List ℕ
between t from to = part t from (to - from)

-- as the header has them
unfoldable pub parts_in : List ℕ → Parts
parts_in t =
    let c = counts_in t in
    let p = places_in t in
    record {
      settings = settings_in t;
      events = rows event_in event_length c.events (between t p.events p.clauses);
      clauses = rows clause_in clause_length c.clauses (between t p.clauses p.keys);
      keys = rows word_in word_length c.keys (between t p.keys p.values);
      values = rows word_in word_length c.values (between t p.values p.texts);
      name = between t p.texts (p.texts + c.name);
      symbol = between t (p.texts + c.name) p.names;
      names = between t p.names p.keytexts;
      keytexts = between t p.keytexts p.valuetexts;
      valuetexts = between t p.valuetexts p.used;
    }

-- the text of a row
unfoldable pub event_text : List ℕ → EventRow → List ℕ
event_text names e = part names e.at e.len

unfoldable pub word_text : List ℕ → WordRow → List ℕ
word_text texts w = part texts w.at w.len
