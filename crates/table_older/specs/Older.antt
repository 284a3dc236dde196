-- What a table was in the three landings before, and the sheet that it meant: a clause's score was at most 100; before lots, an event's kind was
-- 0 or 1; before a trading day could open in the evening, t0 stood in four bytes. Assumes nothing.
use Rattle.std.specs.Prelude.{ℕ, Bool, ◌&&◌, List, [], ◌∷◌, map, leb, ltb, eqb, length, take, drop}
use Rattle.le.specs.Field.{u16, u32}
use Rattle.text.specs.Conditions.{all_of, every}
use Rattle.sheet.specs.Sheet.{Clause, Event, Sheet, name_limit, interval_limit, timeout_limit, stop_limit, t0_limit, evening_limit, exit_in, lots_in}
use Rattle.table_words.specs.Words.{clean, key_parts, value_parts}
use Rattle.table.specs.Layout.{table_length, layout_number, layout_in, counts_in, places_in, Parts, parts_in, event_text, word_text}
use Rattle.table.specs.Table.{counts_ok, places_ok, follow, kind_ok, code_ok, key_uses, value_uses, in_order, words_ok, clause_of}
use Rattle.table.specs.declared.EventRow.{EventRow}
use Rattle.table.specs.declared.ClauseRow.{ClauseRow}

-- which of the three
pub data Landing : Type 0 where
  BeforeThousandths : Landing
  BeforeLots : Landing
  BeforeEvening : Landing

-- "without it the value is 0"
abbrev pub t0_was : Landing → List ℕ → ℕ
t0_was BeforeThousandths t = u16 t 16
t0_was BeforeLots t = u16 t 16
t0_was BeforeEvening t = u32 t 16

abbrev pub evening_was : Landing → List ℕ → ℕ
evening_was BeforeThousandths t = u16 t 18
evening_was BeforeLots t = u16 t 18
evening_was BeforeEvening t = 0

-- the number of an event's kind: without lots 0 opening, 1 exit
abbrev pub kind_was : Landing → ℕ → Bool
kind_was BeforeThousandths k = kind_ok k
kind_was BeforeLots k = leb k 1
kind_was BeforeEvening k = leb k 1

abbrev pub exit_was : Landing → ℕ → Bool
exit_was BeforeThousandths k = exit_in k
exit_was BeforeLots k = eqb k 1
exit_was BeforeEvening k = eqb k 1

-- "missing means 1"
abbrev pub lots_were : Landing → ℕ → ℕ
lots_were BeforeThousandths k = lots_in k
lots_were BeforeLots k = 1
lots_were BeforeEvening k = 1

-- "here 0..100"
abbrev pub score_limit_was : ℕ
score_limit_was = 100

-- ---- which bytes were a table

unfoldable pub settings_were : Landing → List ℕ → Bool
settings_were l t =
    all_of
    (leb (u32 t 4) interval_limit
    ∷ leb (u32 t 8) timeout_limit
    ∷ leb (u32 t 12) stop_limit
    ∷ leb (t0_was l t) t0_limit
    ∷ leb (evening_was l t) evening_limit
    ∷ [])

unfoldable pub head_was : Landing → List ℕ → Bool
head_was l t =
    all_of
    (eqb (length t) table_length
    ∷ eqb (layout_in t) layout_number
    ∷ settings_were l t
    ∷ counts_ok (counts_in t)
    ∷ places_ok (counts_in t) (places_in t)
    ∷ [])

unfoldable pub event_was : Landing → List ℕ → EventRow → Bool
event_was l names e = all_of (kind_was l e.kind ∷ leb e.operate 6 ∷ leb e.len name_limit ∷ clean (event_text names e) ∷ [])

unfoldable pub events_were : Landing → List ℕ → ℕ → List EventRow → Bool
events_were l names n es =
    all_of
    (every (event_was l names) es
    ∷ follow (λ e. e.at) (λ e. e.len) 0 (length names) es
    ∷ follow (λ e. e.first) (λ e. e.count) 0 n es
    ∷ [])

unfoldable pub clause_was : ℕ → ℕ → ClauseRow → Bool
clause_was k v c =
    all_of (leb c.kind 2 ∷ ltb c.key k ∷ code_ok v c.v1 ∷ code_ok v c.v2 ∷ code_ok v c.v3 ∷ leb c.score score_limit_was ∷ [])

unfoldable pub clauses_were : ℕ → ℕ → List ClauseRow → Bool
clauses_were k v cs = all_of (every (clause_was k v) cs ∷ in_order 0 k (key_uses cs) ∷ in_order 0 v (value_uses cs) ∷ [])

unfoldable pub parts_were : Landing → Parts → Bool
parts_were l p =
    all_of
    (clean p.name
    ∷ clean p.symbol
    ∷ events_were l p.names (length p.clauses) p.events
    ∷ clauses_were (length p.keys) (length p.values) p.clauses
    ∷ words_ok key_parts p.keytexts p.keys
    ∷ words_ok value_parts p.valuetexts p.values
    ∷ [])

unfoldable pub was_table : Landing → List ℕ → Bool
was_table l t = head_was l t && parts_were l (parts_in t)

-- ---- what it meant

unfoldable pub event_meant : Landing → List ℕ → List Clause → EventRow → Event
event_meant l names cs e =
    record {
      exit = exit_was l e.kind;
      operate = e.operate;
      name = event_text names e;
      lots = lots_were l e.kind;
      clauses = take e.count (drop e.first cs);
    }

unfoldable pub meant_before : Landing → List ℕ → Sheet
meant_before l t =
    let p = parts_in t in
    let cs = map (clause_of (map (word_text p.keytexts) p.keys) (map (word_text p.valuetexts) p.values)) p.clauses in
    record {
      name = p.name;
      symbol = p.symbol;
      interval = u32 t 4;
      timeout = u32 t 8;
      stop = u32 t 12;
      t0 = eqb (t0_was l t) 1;
      evening = evening_was l t;
      events = map (event_meant l p.names cs) p.events;
    }
