-- What writing a table asks of the numbers that compiling keeps: they stand in the buffers, each fits its field, and all fit the table.
-- Assumes nothing.
use Rattle.std.specs.Prelude.{ℕ, ◌+◌, ◌*◌, ◌<◌, ◌≤◌, List, length, get_or, drop}
use Rattle.sheet.specs.Places.{event_numbers}
use Rattle.sheet.specs.declared.SheetAt.{SheetAt}
use Rattle.table.specs.Layout.{table_length}
use Rattle.table.specs.declared.Places.{Places}
use Rattle.table_layout.specs.Build.{places_of}
use Rattle.table_layout.specs.Fits.{SettingsFit}
use Rattle.table_wordbook.specs.Wordbook.{Words, words_length}
use Rattle.table_parts.specs.Draft.{names_length}
use Rattle.table_write_rows.specs.Rows.{EventsFit, ClausesFit, WordsFit}
use Rattle.table_write_head.specs.Head.{settings_of, counts_of}

-- ---- texts

-- n events whose names stand in s
pub record NamesFit (s es : List ℕ) (n : ℕ) : Type 0 where
  pub room : event_numbers * n ≤ length es
  pub each : (i : ℕ) → i < n → get_or (drop (event_numbers * i) es) 2 0 + get_or (drop (event_numbers * i) es) 3 0 ≤ length s

-- the position's name and symbol and the events' names stand in s, the keys and the values in their books
pub record TextsFit (s es : List ℕ) (a : SheetAt) (ks vs : Words) : Type 0 where
  pub name : 2 ≤ a.name
  pub symbol : a.name < a.symbol
  pub within : a.symbol ≤ length s
  pub names : NamesFit s es a.events
  pub keys : words_length ks ≤ length ks.texts
  pub values : words_length vs ≤ length vs.texts

-- ---- the table

-- the places of its parts
abbrev pub places_kept : List ℕ → SheetAt → Words → Words → Places
places_kept es a ks vs = places_of (counts_of a ks.count vs.count) (names_length es a.events) (words_length ks) (words_length vs)

pub record TableFits (s es cs : List ℕ) (a : SheetAt) (numbers codes : List ℕ) (ks vs : Words) : Type 0 where
  pub settings : SettingsFit (settings_of a)
  pub events : EventsFit es a.events
  pub clauses : ClausesFit cs numbers codes a.clauses
  pub keys : WordsFit ks.starts ks.orders ks.ranks ks.count
  pub values : WordsFit vs.starts vs.orders vs.ranks vs.count
  pub texts : TextsFit s es a ks vs
  pub room : (places_kept es a ks vs).used ≤ table_length
