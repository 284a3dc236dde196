-- Which bytes are a table: "A table is accepted when ..", condition by condition; and the sheet that a table means. Assumes nothing.
use Rattle.std.specs.Prelude.{ℕ, ◌+◌, ◌-◌, ◌*◌, Bool, false, not, cond, ◌&&◌, ◌||◌, List, [], ◌∷◌, map, leb, ltb, eqb, length, get_or, take, drop}
use Rattle.text.specs.Answer.{Answer, Got, ◌>>=◌, must}
use Rattle.text.specs.Conditions.{all_of, every}
use Rattle.signal.specs.Signal.{wildcard, score_limit}
use Rattle.sheet.specs.Sheet.{kind_of, Clause, Event, Sheet, event_limit, clause_limit, name_limit, interval_limit, timeout_limit, stop_limit, t0_limit, evening_limit, lots_ok, exit_in, lots_in}
use Rattle.table_words.specs.Words.{clean, word_ok, key_parts, value_parts, distinct, ordered}
use Rattle.table.specs.Layout.{table_length, head_length, event_length, clause_length, word_length, layout_number, layout_in, settings_in, counts_in, places_in, Parts, parts_in, event_text, word_text}
use Rattle.table.specs.declared.Settings.{Settings}
use Rattle.table.specs.declared.Counts.{Counts}
use Rattle.table.specs.declared.Places.{Places}
use Rattle.table.specs.declared.EventRow.{EventRow}
use Rattle.table.specs.declared.ClauseRow.{ClauseRow}
use Rattle.table.specs.declared.WordRow.{WordRow}

-- ---- the header

-- "counts, settings .. are in range"
unfoldable pub settings_ok : Settings → Bool
settings_ok s =
    all_of
    (leb s.interval interval_limit
    ∷ leb s.timeout timeout_limit
    ∷ leb s.stop stop_limit
    ∷ leb s.t0 t0_limit
    ∷ leb s.evening evening_limit
    ∷ [])

-- a clause has one key and three values
unfoldable pub counts_ok : Counts → Bool
counts_ok c =
    all_of
    (leb c.events event_limit
    ∷ leb c.clauses clause_limit
    ∷ leb c.keys clause_limit
    ∷ leb c.values (3 * clause_limit)
    ∷ leb c.name name_limit
    ∷ leb c.symbol name_limit
    ∷ [])

-- "offsets follow each other"
unfoldable pub places_ok : Counts → Places → Bool
places_ok c p =
    all_of
    (eqb p.events head_length
    ∷ eqb p.clauses (p.events + event_length * c.events)
    ∷ eqb p.keys (p.clauses + clause_length * c.clauses)
    ∷ eqb p.values (p.keys + word_length * c.keys)
    ∷ eqb p.texts (p.values + word_length * c.values)
    ∷ eqb p.names (p.texts + c.name + c.symbol)
    ∷ leb p.names p.keytexts
    ∷ leb p.keytexts p.valuetexts
    ∷ leb p.valuetexts p.used
    ∷ leb p.used table_length
    ∷ [])

-- of this layout: "a table is accepted when .." it would be read as it was written
unfoldable pub head_ok : List ℕ → Bool
head_ok t =
    all_of
    (eqb (length t) table_length
    ∷ eqb (layout_in t) layout_number
    ∷ settings_ok (settings_in t)
    ∷ counts_ok (counts_in t)
    ∷ places_ok (counts_in t) (places_in t)
    ∷ [])

-- spans that follow each other: each starts where the one before it ended, the first at `from`, and the last ends at `to`
unfoldable pub follow {ℓ} : {X : Type ℓ} → (X → ℕ) → (X → ℕ) → ℕ → ℕ → List X → Bool
follow at len from to [] = eqb from to
follow at len from to (x ∷ xs) = cond (eqb (at x) from) (follow at len (from + len x) to xs) false

-- ---- events

-- lots outside 1 to 1,000, "or any but 1 on an X event, give 9": by the number of the event's kind
abbrev pub kind_ok : ℕ → Bool
kind_ok k = lots_ok (lots_in k) && (not (exit_in k) || eqb (lots_in k) 1)

-- "name lengths, operates .. are in range"
unfoldable pub event_ok : List ℕ → EventRow → Bool
event_ok names e = all_of (kind_ok e.kind ∷ leb e.operate 6 ∷ leb e.len name_limit ∷ clean (event_text names e) ∷ [])

-- n clauses; the names follow each other, and so do the events' clauses
unfoldable pub events_ok : List ℕ → ℕ → List EventRow → Bool
events_ok names n es =
    all_of
    (every (event_ok names) es
    ∷ follow (λ e. e.at) (λ e. e.len) 0 (length names) es
    ∷ follow (λ e. e.first) (λ e. e.count) 0 n es
    ∷ [])

-- ---- clauses

-- "The wildcard has code -1, an unknown value 0, known ones 1 upward." -1 in 16 bits:
abbrev pub wild_code : ℕ
wild_code = 65535

-- a clause's value is wild, or one of n known ones
abbrev pub code_ok : ℕ → ℕ → Bool
code_ok n v = eqb v wild_code || leb 1 v && leb v n

-- "scores are in range"; "indexes are below counts": of k keys and v values
unfoldable pub clause_ok : ℕ → ℕ → ClauseRow → Bool
clause_ok k v c =
    all_of (leb c.kind 2 ∷ ltb c.key k ∷ code_ok v c.v1 ∷ code_ok v c.v2 ∷ code_ok v c.v3 ∷ leb c.score score_limit ∷ [])

-- the numbers of the keys, and of the values that are not wild, in the order in which the clauses use them
abbrev pub key_uses : List ClauseRow → List ℕ
key_uses cs = map (λ c. c.key) cs

abbrev pub use_of : ℕ → List ℕ → List ℕ
use_of v us = cond (eqb v wild_code) us ((v - 1) ∷ us)

unfoldable pub value_uses : List ClauseRow → List ℕ
value_uses [] = []
value_uses (c ∷ cs) = use_of c.v1 (use_of c.v2 (use_of c.v3 (value_uses cs)))

-- "in order of first use": where `seen` numbers were used before, a use is of one of them or of the next; in the end all n were used
unfoldable pub in_order : ℕ → ℕ → List ℕ → Bool
in_order seen n [] = eqb seen n
in_order seen n (u ∷ us) = let next = cond (eqb u seen) (seen + 1) seen in cond (leb u seen) (in_order next n us) false

unfoldable pub clauses_ok : ℕ → ℕ → List ClauseRow → Bool
clauses_ok k v cs = all_of (every (clause_ok k v) cs ∷ in_order 0 k (key_uses cs) ∷ in_order 0 v (value_uses cs) ∷ [])

-- ---- keys and values

-- words of at most n parts, which follow each other in the texts, "distinct"
unfoldable pub words_ok : ℕ → List ℕ → List WordRow → Bool
words_ok n texts ws =
    let ts = map (word_text texts) ws in
    all_of
    (follow (λ w. w.at) (λ w. w.len) 0 (length texts) ws
    ∷ every (word_ok n) ts
    ∷ distinct ts
    ∷ ordered ts (map (λ w. w.order) ws) (map (λ w. w.rank) ws)
    ∷ [])

-- ---- a table

unfoldable pub parts_ok : Parts → Bool
parts_ok p =
    all_of
    (clean p.name
    ∷ clean p.symbol
    ∷ events_ok p.names (length p.clauses) p.events
    ∷ clauses_ok (length p.keys) (length p.values) p.clauses
    ∷ words_ok key_parts p.keytexts p.keys
    ∷ words_ok value_parts p.valuetexts p.values
    ∷ [])

unfoldable pub is_table : List ℕ → Bool
is_table t = head_ok t && parts_ok (parts_in t)

-- ---- its meaning

-- the text of a code: the wildcard's, or that of one of the values
abbrev pub text_at : List (List ℕ) → ℕ → List ℕ
text_at vs v = cond (eqb v wild_code) wildcard (get_or vs (v - 1) [])

unfoldable pub clause_of : List (List ℕ) → List (List ℕ) → ClauseRow → Clause
clause_of ks vs c =
    record {
      kind = kind_of c.kind;
      signal = record { key = get_or ks c.key []; v1 = text_at vs c.v1; v2 = text_at vs c.v2; v3 = text_at vs c.v3; score = c.score };
    }

-- an event takes its clauses from all of them
unfoldable pub event_of : List ℕ → List Clause → EventRow → Event
event_of names cs e =
    record {
      exit = exit_in e.kind;
      operate = e.operate;
      name = event_text names e;
      lots = lots_in e.kind;
      clauses = take e.count (drop e.first cs);
    }

unfoldable pub sheet_of : Parts → Sheet
sheet_of p =
    let s = p.settings in
    let cs = map (clause_of (map (word_text p.keytexts) p.keys) (map (word_text p.valuetexts) p.values)) p.clauses in
    record {
      name = p.name;
      symbol = p.symbol;
      interval = s.interval;
      timeout = s.timeout;
      stop = s.stop;
      t0 = eqb s.t0 1;
      evening = s.evening;
      events = map (event_of p.names cs) p.events;
    }

-- the sheet that the bytes mean; 9 where they are not a table
unfoldable pub read_table : List ℕ → Answer Sheet
read_table t = do
  _ ← must 9 (is_table t)
  Got (sheet_of (parts_in t))
