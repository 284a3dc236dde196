-- A sheet within all limits, with texts that may stand in a table. Assumes nothing.
use Rattle.std.specs.Prelude.{ℕ, ◌+◌, Bool, ◌||◌, List, [], ◌∷◌, ◌++◌, leb, length}
use Rattle.text.specs.Conditions.{all_of, every}
use Rattle.utf8.specs.Alone.{text_limit}
use Rattle.signal.specs.Signal.{score_limit}
use Rattle.sheet.specs.Sheet.{Clause, Event, Sheet, clause_count, event_limit, clause_limit, name_limit, interval_limit, timeout_limit, stop_limit, evening_limit, lots_ok}
use Rattle.table_words.specs.Words.{clean, is_wild, word_ok, key_parts, value_parts}

-- ---- clauses and events

-- a value is the wildcard or may be a table's value
abbrev pub value_ok : List ℕ → Bool
value_ok v = is_wild v || word_ok value_parts v

-- its key and its values may stand in a table, and its score is "0 to 1,000"
unfoldable pub fine_clause : Clause → Bool
fine_clause c =
    let s = c.signal in
    all_of (word_ok key_parts s.key ∷ value_ok s.v1 ∷ value_ok s.v2 ∷ value_ok s.v3 ∷ leb s.score score_limit ∷ [])

-- "codes 0 to 6"
abbrev pub operate_limit : ℕ
operate_limit = 6

unfoldable pub fine_event : Event → Bool
fine_event e =
    all_of (leb e.operate operate_limit ∷ leb (length e.name) name_limit ∷ clean e.name ∷ lots_ok e.lots ∷ every fine_clause e.clauses ∷ [])

-- the clauses of all events, one event after another
unfoldable pub all_clauses : List Event → List Clause
all_clauses [] = []
all_clauses (e ∷ es) = e.clauses ++ all_clauses es

-- ---- how many bytes the texts of a sheet take together

unfoldable pub clause_weight : Clause → ℕ
clause_weight c = let s = c.signal in length s.key + length s.v1 + length s.v2 + length s.v3

unfoldable pub clauses_weight : List Clause → ℕ
clauses_weight [] = 0
clauses_weight (c ∷ cs) = clause_weight c + clauses_weight cs

unfoldable pub events_weight : List Event → ℕ
events_weight [] = 0
events_weight (e ∷ es) = length e.name + clauses_weight e.clauses + events_weight es

unfoldable pub weight : Sheet → ℕ
weight s = length s.name + length s.symbol + events_weight s.events

-- of these, the names of the events
unfoldable pub names_weight : List Event → ℕ
names_weight [] = 0
names_weight (e ∷ es) = length e.name + names_weight es

-- ---- sheets

-- "Interval is 0..4,102,444,800 seconds, timeout 0..2,147,483,647 bars, stop 0..1,000,000 basis points"; "0 to 1,439 minutes"; "At most
-- 32 events, 256 clauses and 256 bytes a name or symbol."; all texts fit in one
unfoldable pub fine_sheet : Sheet → Bool
fine_sheet s =
    all_of
    (leb (length s.name) name_limit
    ∷ leb (length s.symbol) name_limit
    ∷ clean s.name
    ∷ clean s.symbol
    ∷ leb s.interval interval_limit
    ∷ leb s.timeout timeout_limit
    ∷ leb s.stop stop_limit
    ∷ leb s.evening evening_limit
    ∷ leb (length s.events) event_limit
    ∷ leb (clause_count s.events) clause_limit
    ∷ every fine_event s.events
    ∷ leb (weight s) text_limit
    ∷ [])
