-- Where each part of a table stands in its bytes. Assumes nothing.
use Prim.Native.Nat.{ℕ, ◌+◌, ◌-◌, ◌*◌}
use native.Mathlib.Omega.{arith}
use mathlib.Core.List.{List, ◌++◌, append_assoc}
use mathlib.Core.Path.{◌≡◌, refl, sym, ap, ◌∙◌}
use lib.ListN.{length, drop, replicate, length-append}
use lib.Seq.{take_at, drop_at, drop-drop}
use Rattle.le.specs.Le.{part}
use Rattle.table.specs.Layout.{head_length, event_length, clause_length, word_length, Parts, between}
use Rattle.table_layout.specs.Build.{event_bytes, clause_bytes, word_bytes, row_bytes, counts_for, places_for, head_bytes, body_bytes, used_bytes, zeros_after, table_of}
use Rattle.table_layout.proofs.Rows.{event_length_lem, clause-length, word-length, row_bytes-length}
use Rattle.table_layout.proofs.Head.{head-length}

-- x stands in t at at..to, and `rest` behind it
pub record Stands (t : List ℕ) (at to : ℕ) (x rest : List ℕ) : Type 0 where
  pub from : drop at t ≡ x ++ rest
  pub size : at + length x ≡ to

module _ {t : List ℕ} {at to : ℕ} {x rest : List ℕ} (s : Stands t at to x rest) where
  pub here : between t at to ≡ x
  unfolding part
  here = rw s.from (take_at x rest (to - at) (omega arith))

  pub behind : drop to t ≡ rest
  behind = ap (λ (k : ℕ). drop k t) (sym s.size) ∙ sym (drop-drop (length x) at t) ∙ rw s.from (drop_at x rest (length x) refl)

-- the next one
pub next : {t : List ℕ} {at to end : ℕ} {x y rest : List ℕ} → Stands t at to x (y ++ rest) → to + length y ≡ end → Stands t to end y rest
next s n = record { from = behind s; size = n }

-- ---- the parts of a table

module _ (p : Parts) where
  pub events-length : length (row_bytes event_bytes p.events) ≡ event_length * length p.events
  events-length = row_bytes-length event_bytes event_length event_length_lem p.events

  pub clauses-length : length (row_bytes clause_bytes p.clauses) ≡ clause_length * length p.clauses
  clauses-length = row_bytes-length clause_bytes clause_length clause-length p.clauses

  pub keys_length : length (row_bytes word_bytes p.keys) ≡ word_length * length p.keys
  keys_length = row_bytes-length word_bytes word_length word-length p.keys

  pub values_length : length (row_bytes word_bytes p.values) ≡ word_length * length p.values
  values_length = row_bytes-length word_bytes word_length word-length p.values

  -- what stands behind each of them
  abbrev after_valuetexts : List ℕ
  after_valuetexts = replicate (zeros_after p) 0

  abbrev after_keytexts : List ℕ
  after_keytexts = p.valuetexts ++ after_valuetexts

  abbrev after_names : List ℕ
  after_names = p.keytexts ++ after_keytexts

  abbrev after_symbol : List ℕ
  after_symbol = p.names ++ after_names

  abbrev after_name : List ℕ
  after_name = p.symbol ++ after_symbol

  abbrev after_values : List ℕ
  after_values = p.name ++ after_name

  abbrev after_keys : List ℕ
  after_keys = row_bytes word_bytes p.values ++ after_values

  abbrev after_clauses : List ℕ
  after_clauses = row_bytes word_bytes p.keys ++ after_keys

  abbrev after_events : List ℕ
  after_events = row_bytes clause_bytes p.clauses ++ after_clauses

  -- the whole table, by its header and what is behind it
  pub by_head : table_of p ≡ head_bytes p ++ (row_bytes event_bytes p.events ++ after_events)
  unfolding table_of used_bytes body_bytes
  by_head = simp append_assoc

  pub events-at : Stands (table_of p) (places_for p).events (places_for p).clauses (row_bytes event_bytes p.events) after_events
  unfolding places_for counts_for
  events-at = record {
    from = rw by_head (drop_at (head_bytes p) (row_bytes event_bytes p.events ++ after_events) head_length (head-length p));
    size = omega (arith, events-length);
  }

  pub clauses-at : Stands (table_of p) (places_for p).clauses (places_for p).keys (row_bytes clause_bytes p.clauses) after_clauses
  unfolding places_for counts_for
  clauses-at = next events-at (omega (arith, clauses-length))

  pub keys-at : Stands (table_of p) (places_for p).keys (places_for p).values (row_bytes word_bytes p.keys) after_keys
  unfolding places_for counts_for
  keys-at = next clauses-at (omega (arith, keys_length))

  pub values-at : Stands (table_of p) (places_for p).values (places_for p).texts (row_bytes word_bytes p.values) after_values
  unfolding places_for counts_for
  values-at = next keys-at (omega (arith, values_length))

  pub name-at : Stands (table_of p) (places_for p).texts ((places_for p).texts + length p.name) p.name after_name
  name-at = next values-at refl

  pub symbol-at : Stands (table_of p) ((places_for p).texts + length p.name) (places_for p).names p.symbol after_symbol
  unfolding places_for counts_for
  symbol-at = next name-at refl

  pub names_at : Stands (table_of p) (places_for p).names (places_for p).keytexts p.names after_names
  unfolding places_for counts_for
  names_at = next symbol-at refl

  pub keytexts-at : Stands (table_of p) (places_for p).keytexts (places_for p).valuetexts p.keytexts after_keytexts
  unfolding places_for counts_for
  keytexts-at = next names_at refl

  pub valuetexts-at : Stands (table_of p) (places_for p).valuetexts (places_for p).used p.valuetexts after_valuetexts
  unfolding places_for counts_for
  valuetexts-at = next keytexts-at refl

  -- ---- how long they are together

  pub body_length : head_length + length (body_bytes p) ≡ (places_for p).used
  unfolding body_bytes places_for counts_for
  body_length = simp length-append (omega (arith, events-length, clauses-length, keys_length, values_length))

  pub used-length : length (used_bytes p) ≡ (places_for p).used
  unfolding used_bytes
  used-length = length-append (head_bytes p) (body_bytes p) ∙ rw (head-length p) body_length
