-- The parts of the table that compiling writes, of the numbers that it keeps: the places of a sheet's events and clauses, the numbers of their keys and the
-- codes of their values, and the two wordbooks. Assumes nothing.
use Rattle.std.specs.Prelude.{ℕ, zero, suc, ◌+◌, ◌-◌, ◌*◌, ◌≡◌, List, [], ◌++◌, get_or, take, drop}
use Rattle.std.proofs.Math.Seq.{slice}
use Rattle.list.specs.Numbered.{numbered}
use Rattle.le.specs.Le.{part}
use Rattle.sheet.specs.Places.{clause_numbers, event_numbers, clauses_at, SheetOk}
use Rattle.sheet.specs.declared.SheetAt.{SheetAt}
use Rattle.table_wordbook.specs.Wordbook.{Words, BookOf, words_of}
use Rattle.table.specs.Layout.{Parts}
use Rattle.table.specs.declared.EventRow.{EventRow}
use Rattle.table.specs.declared.ClauseRow.{ClauseRow}
use Rattle.table.specs.declared.WordRow.{WordRow}
use Rattle.table_parts.specs.Codes.{keys_in, values_in, noted_all, numbers_of, values_noted, codes_of}

unfoldable pub word_row : List ℕ → List ℕ → List ℕ → ℕ → WordRow
word_row starts orders ranks i =
    record { at = get_or starts i 0; len = get_or starts (i + 1) 0 - get_or starts i 0; rank = get_or ranks i 0; order = get_or orders i 0 }

abbrev pub word_rows : List ℕ → List ℕ → List ℕ → ℕ → List WordRow
word_rows starts orders ranks n = numbered (word_row starts orders ranks) n

abbrev pub word_texts : Words → List ℕ
word_texts w = take (get_or w.starts w.count 0) w.texts

-- the row of a clause whose numbers stand first in l, with the number of its key, and its values' codes first in v
abbrev pub clause_row_of : List ℕ → ℕ → List ℕ → ClauseRow
clause_row_of l key v = record { kind = get_or l 0 0; key = key; v1 = get_or v 0 0; v2 = get_or v 1 0; v3 = get_or v 2 0; score = get_or l 8 0 }

-- row i of the clauses: cs has nine numbers for each clause, `numbers` one key, `codes` three values
unfoldable pub clause_row : List ℕ → List ℕ → List ℕ → ℕ → ClauseRow
clause_row cs numbers codes i = clause_row_of (drop (clause_numbers * i) cs) (get_or numbers i 0) (drop (3 * i) codes)

abbrev pub clause_rows : List ℕ → List ℕ → List ℕ → ℕ → List ClauseRow
clause_rows cs numbers codes n = numbered (clause_row cs numbers codes) n

-- the names of the first n events, one after another, and how long they are together; es has six numbers for each event
unfoldable pub names_at : List ℕ → List ℕ → ℕ → List ℕ
names_at s es zero = []
names_at s es (suc n) = let l = drop (event_numbers * n) es in names_at s es n ++ part s (get_or l 2 0) (get_or l 3 0)

unfoldable pub names_length : List ℕ → ℕ → ℕ
names_length es zero = 0
names_length es (suc n) = names_length es n + get_or (drop (event_numbers * n) es) 3 0

-- the row of an event whose numbers stand first in l, with its name at `at` of the names
abbrev pub event_row_of : List ℕ → ℕ → EventRow
event_row_of l at = record { kind = get_or l 0 0; operate = get_or l 1 0; at = at; len = get_or l 3 0; first = get_or l 4 0; count = get_or l 5 0 }

unfoldable pub event_row : List ℕ → ℕ → EventRow
event_row es i = event_row_of (drop (event_numbers * i) es) (names_length es i)

abbrev pub event_rows : List ℕ → ℕ → List EventRow
event_rows es n = numbered (event_row es) n

-- the parts that all this makes
unfoldable pub draft : List ℕ → List ℕ → List ℕ → SheetAt → List ℕ → List ℕ → Words → Words → Parts
draft s es cs a numbers codes ks vs =
    record {
      settings = record { interval = a.interval; timeout = a.timeout; stop = a.stop; t0 = a.t0; evening = a.evening };
      events = event_rows es a.events;
      clauses = clause_rows cs numbers codes a.clauses;
      keys = word_rows ks.starts ks.orders ks.ranks ks.count;
      values = word_rows vs.starts vs.orders vs.ranks vs.count;
      name = slice 2 a.name s;
      symbol = slice (a.name + 1) a.symbol s;
      names = names_at s es a.events;
      keytexts = word_texts ks;
      valuetexts = word_texts vs;
    }

-- ---- what is known of them when the table is written

-- the keys' numbers are in the first places of `numbers`, the values' codes in those of `codes`
pub record Drafted (s es cs : List ℕ) (a : SheetAt) (numbers codes : List ℕ) (ks vs : Words) : Type 0 where
  pub sheet : SheetOk s es cs a
  pub keys : BookOf ks
  pub keys-are : words_of ks ≡ noted_all [] (keys_in (clauses_at s cs a))
  pub numbers_are : take a.clauses numbers ≡ numbers_of [] (keys_in (clauses_at s cs a))
  pub values : BookOf vs
  pub values-are : words_of vs ≡ values_noted [] (values_in (clauses_at s cs a))
  pub codes_are : take (3 * a.clauses) codes ≡ codes_of [] (values_in (clauses_at s cs a))
