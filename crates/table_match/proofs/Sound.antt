-- What an accepted table gives: its sections, and of each word, clause and event what the code asks. Assumes nothing.
use Prim.Native.Nat.{ℕ, zero, suc, ◌+◌, ◌-◌, ◌*◌, ◌<◌, ◌≤◌}
use native.Mathlib.Omega.{arith}
use mathlib.Core.Path.{◌≡◌, ◌∙◌, refl, sym, ap, subst}
use mathlib.Core.Bool.{Bool, true, false, false≢true}
use mathlib.Core.List.{List, [], ◌∷◌, map}
use lib.ListN.{length, get_or, take, drop, length-map}
use lib.Seq.{drop-cons}
use Rattle.le.proofs.Laws.{part_lent}
use Rattle.list.specs.Numbered.{rows}
use Rattle.list.proofs.Laws.{rows-length, rows_at}
use Rattle.text.specs.Conditions.{every}
use Rattle.text.specs.Text.{same}
use Rattle.text.proofs.Conditions.{fact}
use Rattle.text.proofs.Every.{every-below}
use Rattle.text.proofs.Same.{same_eq}
use Rattle.signal.specs.Signal.{wildcard}
use Rattle.table_words.specs.Words.{word_ok, key_parts, value_parts}
use Rattle.table_words.proofs.Opened.{opened}
use Rattle.table.specs.Layout.{head_length, event_length, clause_length, word_length, counts_in, places_in, event_in, clause_in, word_in, between, parts_in, word_text}
use Rattle.table.specs.Table.{follow, event_ok, events_ok, clause_ok, clauses_ok, words_ok, parts_ok, is_table, sheet_of}
use Rattle.table.specs.Read.{EventAt, ClauseAt, WordAt, Headed}
use Rattle.table.specs.declared.Places.{Places}
use Rattle.table.specs.declared.EventRow.{EventRow}
use Rattle.table.specs.declared.ClauseRow.{ClauseRow}
use Rattle.table.specs.declared.WordRow.{WordRow}
use Rattle.table.proofs.Facts.{table_facts}
use Rattle.table.proofs.Heads.{headed, between-length, events-many, clauses-many, keys-many, values-many}
use Rattle.table.proofs.Spans.{follow-within}
use Rattle.table_match.specs.Rows.{text_of, WordAmong, keys_of, values_of, clause_from, clauses_of, event_from, ClauseIn, EventIn}

-- ---- lists

pub map_at : {X Y : Type 0} (f : X → Y) (xs : List X) (i : ℕ) (d : X) (b : Y) → i < length xs → get_or (map f xs) i b ≡ f (get_or xs i d)
map_at f [] i d b h = absurd (omega arith)
map_at f (x ∷ xs) zero d b h = refl
map_at f (x ∷ xs) (suc i) d b h = map_at f xs i d b (omega arith)

-- what a walk over a list meets next
map_next : {X Y : Type 0} (f : X → Y) (xs : List X) (i : ℕ) (d : X) → i < length xs → drop i (map f xs) ≡ f (get_or xs i d) ∷ drop (i + 1) (map f xs)
map_next f xs i d h =
    let e : suc i ≡ i + 1 = omega arith in
    drop-cons (map f xs) i (f d) (omega (arith, length-map xs f))
    ∙ ap (λ (k : ℕ). get_or (map f xs) i (f d) ∷ drop k (map f xs)) e
    ∙ ap (λ y. y ∷ drop (i + 1) (map f xs)) (map_at f xs i d (f d) h)

-- ---- words

abbrev no_word : WordRow
no_word = record { at = 0; len = 0; rank = 0; order = 0 }

module _ (limit n : ℕ) (l texts : List ℕ) (size : length l ≡ word_length * n) (ok : words_ok limit texts (rows word_in word_length n l) ≡ true) (i : ℕ) (h : i < n) where
  abbrev words : List WordRow
  words = rows word_in word_length n l

  many : length words ≡ n
  many = rows-length word_in word_length n l

  row_is : get_or words i no_word ≡ word_in (drop (word_length * i) l)
  row_is = rows_at word_in word_length n l i no_word h

  text-is : get_or (map (word_text texts) words) i [] ≡ text_of l texts i
  text-is = map_at (word_text texts) words i no_word [] (omega (arith, many)) ∙ ap (word_text texts) row_is

  word_among : WordAmong l texts i
  unfolding words_ok
  word_among = record {
    row = omega (arith, size);
    text = subst (λ w. w.at + w.len ≤ length texts) row_is (follow-within (λ w. w.at) (λ w. w.len) no_word 0 (length texts) words (fact _ ok 0) i (omega (arith, many)));
  }

  word-fine : word_ok limit (text_of l texts i) ≡ true
  unfolding words_ok
  word-fine = subst (λ x. word_ok limit x ≡ true) text-is (every-below (word_ok limit) [] (map (word_text texts) words) (fact _ ok 1) i (omega (arith, length-map words (word_text texts), many)))

-- ---- `text_at`

module _ {l : List ℕ} {i : ℕ} {w : WordRow} (r : WordAt l i w) where
  pub text-room : {texts : List ℕ} → WordAmong l texts i → w.at + w.len ≤ length texts
  text-room a = rw r.is a.text

  -- the text as it is lent
  pub text_lent : (texts : List ℕ) → take (w.at + w.len - w.at) (drop w.at texts) ≡ text_of l texts i
  unfolding word_text
  text_lent texts = part_lent texts w.at w.len ∙ rw (← r.is)

-- a value is not the wildcard
wild_word : word_ok value_parts wildcard ≡ false
unfolding opened
wild_word = refl

pub not_wild : (v : List ℕ) → word_ok value_parts v ≡ true → same v wildcard ≡ false
not_wild v e = go (same v wildcard) refl
  where
    go : (b : Bool) → same v wildcard ≡ b → b ≡ false
    go true q = absurd (false≢true (sym wild_word ∙ ap (word_ok value_parts) (sym (same_eq v wildcard q)) ∙ e))
    go false q = refl

-- ---- an accepted table, and its places

pub record Accepted (t : List ℕ) (p : Places) : Type 0 where
  pub table : is_table t ≡ true
  pub places : p ≡ places_in t

pub head-room : (t : List ℕ) → is_table t ≡ true → head_length ≤ length t
head-room t ok = omega (arith, (headed t (table_facts t ok).0).size)

module _ {t : List ℕ} {p : Places} (a : Accepted t p) where
  head : Headed t (counts_in t) p
  head = subst (Headed t (counts_in t)) (sym a.places) (headed t (table_facts t a.table).0)

  -- the sections follow each other within the table
  texts-room : p.texts ≤ length t
  texts-room = omega (arith, head.names, head.keytexts, head.valuetexts, head.used, head.within)

  pub events-room : (p.events ≤ p.clauses) × (p.clauses ≤ length t)
  events-room = (omega (arith, head.clauses), omega (arith, head.keys, head.values, head.texts, texts-room))

  pub clauses-room : (p.clauses ≤ p.keys) × (p.keys ≤ length t)
  clauses-room = (omega (arith, head.keys), omega (arith, head.values, head.texts, texts-room))

  pub keys-room : (p.keys ≤ p.values) × (p.values ≤ length t)
  keys-room = (omega (arith, head.values), omega (arith, head.texts, texts-room))

  pub values-room : (p.values ≤ p.texts) × (p.texts ≤ length t)
  values-room = (omega (arith, head.texts), texts-room)

  pub keytexts-room : (p.keytexts ≤ p.valuetexts) × (p.valuetexts ≤ length t)
  keytexts-room = (head.valuetexts, omega (arith, head.used, head.within))

  pub valuetexts-room : (p.valuetexts ≤ p.used) × (p.used ≤ length t)
  valuetexts-room = (head.used, head.within)

  -- and hold the rows
  events-size : length (between t p.events p.clauses) ≡ event_length * (counts_in t).events
  events-size = between-length t p.events p.clauses events-room.1 ∙ omega (arith, head.clauses)

  clauses-size : length (between t p.clauses p.keys) ≡ clause_length * (counts_in t).clauses
  clauses-size = between-length t p.clauses p.keys clauses-room.1 ∙ omega (arith, head.keys)

  keys-size : length (between t p.keys p.values) ≡ word_length * (counts_in t).keys
  keys-size = between-length t p.keys p.values keys-room.1 ∙ omega (arith, head.values)

  values-size : length (between t p.values p.texts) ≡ word_length * (counts_in t).values
  values-size = between-length t p.values p.texts values-room.1 ∙ omega (arith, head.texts)

  -- its parts are in order
  parts-fine : parts_ok (parts_in t) ≡ true
  parts-fine = (table_facts t a.table).1

  keys-fine : words_ok key_parts (between t p.keytexts p.valuetexts) (rows word_in word_length (counts_in t).keys (between t p.keys p.values)) ≡ true
  unfolding parts_ok parts_in
  keys-fine = rw a.places (fact _ parts-fine 4)

  values-fine : words_ok value_parts (between t p.valuetexts p.used) (rows word_in word_length (counts_in t).values (between t p.values p.texts)) ≡ true
  unfolding parts_ok parts_in
  values-fine = rw a.places (fact _ parts-fine 5)

  -- ---- keys and values

  module _ {l texts : List ℕ} (f : l ≡ between t p.keys p.values) (g : texts ≡ between t p.keytexts p.valuetexts) {k : ℕ} (h : k < (counts_in t).keys) where
    pub key_among : WordAmong l texts k
    key_among = rw (f, g) (word_among key_parts (counts_in t).keys (between t p.keys p.values) (between t p.keytexts p.valuetexts) keys-size keys-fine k h)

    pub key-is : text_of l texts k ≡ get_or (keys_of t) k []
    unfolding parts_in
    key-is = rw (f, g, ← a.places) (sym (text-is key_parts (counts_in t).keys (between t p.keys p.values) (between t p.keytexts p.valuetexts) keys-size keys-fine k h))

  module _ {l texts : List ℕ} (f : l ≡ between t p.values p.texts) (g : texts ≡ between t p.valuetexts p.used) {v : ℕ} (h : v < (counts_in t).values) where
    pub value_among : WordAmong l texts v
    value_among = rw (f, g) (word_among value_parts (counts_in t).values (between t p.values p.texts) (between t p.valuetexts p.used) values-size values-fine v h)

    pub value-is : text_of l texts v ≡ get_or (values_of t) v []
    unfolding parts_in
    value-is = rw (f, g, ← a.places) (sym (text-is value_parts (counts_in t).values (between t p.values p.texts) (between t p.valuetexts p.used) values-size values-fine v h))

    value-fine : word_ok value_parts (text_of l texts v) ≡ true
    value-fine = rw (f, g) (word-fine value_parts (counts_in t).values (between t p.values p.texts) (between t p.valuetexts p.used) values-size values-fine v h)

-- no value is the wildcard
pub value-plain : (t : List ℕ) → is_table t ≡ true → (v : ℕ) → v < (counts_in t).values → same (get_or (values_of t) v []) wildcard ≡ false
value-plain t ok v h =
    let p = places_in t in
    let a : Accepted t p = record { table = ok; places = refl } in
    not_wild (get_or (values_of t) v []) (subst (λ x. word_ok value_parts x ≡ true) (value-is a refl refl h) (value-fine a refl refl h))

-- ---- clauses and events

abbrev no_clause : ClauseRow
no_clause = record { kind = 0; key = 0; v1 = 0; v2 = 0; v3 = 0; score = 0 }

abbrev pub no_event : EventRow
no_event = record { kind = 0; operate = 0; at = 0; len = 0; first = 0; count = 0 }

module _ (t : List ℕ) (ok : is_table t ≡ true) where
  clauses-fine : every (clause_ok (counts_in t).keys (counts_in t).values) (parts_in t).clauses ≡ true
  unfolding parts_ok clauses_ok
  clauses-fine = rw (← keys-many t, ← values-many t) (fact _ (fact _ (table_facts t ok).1 3) 0)

  events-fine : every (event_ok (parts_in t).names) (parts_in t).events ≡ true
  unfolding parts_ok events_ok
  events-fine = fact _ (fact _ (table_facts t ok).1 2) 0

  spans_fine : follow (λ e. e.first) (λ e. e.count) 0 (counts_in t).clauses (parts_in t).events ≡ true
  unfolding parts_ok events_ok
  spans_fine = rw (← clauses-many t) (fact _ (fact _ (table_facts t ok).1 2) 2)

  clause-fine : (i : ℕ) → i < (counts_in t).clauses → ClauseIn t (get_or (parts_in t).clauses i no_clause)
  clause-fine i h = every-below (clause_ok (counts_in t).keys (counts_in t).values) no_clause (parts_in t).clauses clauses-fine i (omega (arith, clauses-many t))

  event_checked : (i : ℕ) → i < (counts_in t).events → event_ok (parts_in t).names (get_or (parts_in t).events i no_event) ≡ true
  event_checked i h = every-below (event_ok (parts_in t).names) no_event (parts_in t).events events-fine i (omega (arith, events-many t))

  event_fine : (i : ℕ) → i < (counts_in t).events → EventIn t (get_or (parts_in t).events i no_event)
  event_fine i h = record {
    clauses = follow-within (λ e. e.first) (λ e. e.count) no_event 0 (counts_in t).clauses (parts_in t).events spans_fine i (omega (arith, events-many t));
  }

module _ {t : List ℕ} {p : Places} (a : Accepted t p) where
  module _ {l : List ℕ} (f : l ≡ between t p.clauses p.keys) {i : ℕ} (h : i < (counts_in t).clauses) where
    pub clause-room : clause_length * i + clause_length ≤ length l
    clause-room = rw f (omega (arith, clauses-size a))

    module _ {c : ClauseRow} (r : ClauseAt l i c) where
      clause-is : get_or (parts_in t).clauses i no_clause ≡ c
      unfolding parts_in
      clause-is = rw (← a.places) (rows_at clause_in clause_length (counts_in t).clauses (between t p.clauses p.keys) i no_clause h ∙ rw (← f) (sym r.is))

      pub clause_in_lem : ClauseIn t c
      clause_in_lem = subst (ClauseIn t) clause-is (clause-fine t a.table i h)

      pub clause-next : drop i (clauses_of t) ≡ clause_from t c ∷ drop (i + 1) (clauses_of t)
      clause-next = map_next (clause_from t) (parts_in t).clauses i no_clause (omega (arith, clauses-many t)) ∙ ap (λ x. clause_from t x ∷ drop (i + 1) (clauses_of t)) clause-is

  module _ {l : List ℕ} (f : l ≡ between t p.events p.clauses) {i : ℕ} (h : i < (counts_in t).events) where
    pub event_room : event_length * i + event_length ≤ length l
    event_room = rw f (omega (arith, events-size a))

    module _ {e : EventRow} (r : EventAt l i e) where
      pub event_is : get_or (parts_in t).events i no_event ≡ e
      unfolding parts_in
      event_is = rw (← a.places) (rows_at event_in event_length (counts_in t).events (between t p.events p.clauses) i no_event h ∙ rw (← f) (sym r.is))

      -- what the check asks of an event
      pub event_ok_lem : event_ok (parts_in t).names e ≡ true
      event_ok_lem = subst (λ x. event_ok (parts_in t).names x ≡ true) event_is (event_checked t a.table i h)

      pub event_in_lem : EventIn t e
      event_in_lem = subst (EventIn t) event_is (event_fine t a.table i h)

      pub event_next : drop i (sheet_of (parts_in t)).events ≡ event_from t e ∷ drop (i + 1) (sheet_of (parts_in t)).events
      unfolding sheet_of
      event_next = map_next (event_from t) (parts_in t).events i no_event (omega (arith, events-many t)) ∙ ap (λ x. event_from t x ∷ drop (i + 1) (map (event_from t) (parts_in t).events)) event_is
