-- The parts of a table as they are lent, and the conditions on them put together. Assumes nothing.
use Prim.Native.Nat.{ℕ, ◌≤◌}
use native.Mathlib.Omega.{arith}
use mathlib.Core.Bool.{Bool, true, false, ◌&&◌, false≢true}
use mathlib.Core.List.{List, [], ◌∷◌}
use mathlib.Core.Path.{◌≡◌, refl, sym, ◌∙◌}
use lib.ListN.{length, get_or}
use Rattle.le.specs.Le.{part}
use Rattle.text.specs.Conditions.{all_of, every}
use Rattle.text.proofs.Conditions.{◌also◌, none_left, fact}
use Rattle.text.proofs.Every.{every_cons, every-at}
use Rattle.table_words.specs.Words.{clean, key_parts, value_parts}
use Rattle.table.specs.Layout.{head_length, counts_in, places_in, Parts, parts_in}
use Rattle.table.specs.Table.{head_ok, events_ok, clauses_ok, words_ok, parts_ok, is_table}
use Rattle.table.specs.Read.{Headed}
use Rattle.table.specs.declared.Counts.{Counts}
use Rattle.table.specs.declared.Places.{Places}
use Rattle.table.proofs.Heads.{headed, clauses-many, keys-many, values-many}
use Rattle.table_check_events.specs.Check.{event_rows}
use Rattle.table_check_clauses.specs.Check.{clause_rows}
use Rattle.table_check_words.specs.Check.{word_rows}
use Rattle.table_check_texts.specs.Check.{texts_ok}
use Rattle.table_check_texts.proofs.Texts.{clean-none}
use Rattle.table_check_texts.proofs.Lent.{lent}
use Rattle.table_check.specs.Check.{rows_ok, vocabulary_ok}
use Rattle.text.proofs.Tested.{broken, decided}
use Rattle.table_check.proofs.Spans.{names-clean, words-clean}

-- ---- the header

pub headed_as : (t : List ℕ) {c : Counts} {p : Places} → head_ok t ≡ true → c ≡ counts_in t → p ≡ places_in t → Headed t c p
headed_as t e q r = rw (q, r) (headed t e)

pub head_long : (t : List ℕ) → head_ok t ≡ true → head_length ≤ length t
head_long t e = omega (arith, (headed t e).size)

-- ---- as they are lent

module _ {t : List ℕ} {c : Counts} {p : Places} (h : Headed t c p) where
  events-are : event_rows c.events (lent t p.events p.clauses) ≡ (parts_in t).events
  unfolding parts_in part
  events-are = rw (h.counts, h.places)

  clauses-are : clause_rows c.clauses (lent t p.clauses p.keys) ≡ (parts_in t).clauses
  unfolding parts_in part
  clauses-are = rw (h.counts, h.places)

  keys-are : word_rows c.keys (lent t p.keys p.values) ≡ (parts_in t).keys
  unfolding parts_in part
  keys-are = rw (h.counts, h.places)

  values-are : word_rows c.values (lent t p.values p.texts) ≡ (parts_in t).values
  unfolding parts_in part
  values-are = rw (h.counts, h.places)

  names-are : lent t p.names p.keytexts ≡ (parts_in t).names
  unfolding parts_in part
  names-are = rw h.places

  keytexts-are : lent t p.keytexts p.valuetexts ≡ (parts_in t).keytexts
  unfolding parts_in part
  keytexts-are = rw h.places

  valuetexts-are : lent t p.valuetexts p.used ≡ (parts_in t).valuetexts
  unfolding parts_in part
  valuetexts-are = rw h.places

  -- ---- the conditions on them

  -- one of the texts
  text-clean : texts_ok (parts_in t) ≡ true → (i : ℕ) → clean (get_or ((parts_in t).name ∷ (parts_in t).symbol ∷ (parts_in t).names ∷ (parts_in t).keytexts ∷ (parts_in t).valuetexts ∷ []) i []) ≡ true
  unfolding texts_ok
  text-clean e i = every-at clean [] clean-none _ e i

  pub names_lent : texts_ok (parts_in t) ≡ true → clean (lent t p.names p.keytexts) ≡ true
  names_lent e = rw names-are (text-clean e 2)

  pub keytexts_lent : texts_ok (parts_in t) ≡ true → clean (lent t p.keytexts p.valuetexts) ≡ true
  keytexts_lent e = rw keytexts-are (text-clean e 3)

  pub valuetexts_lent : texts_ok (parts_in t) ≡ true → clean (lent t p.valuetexts p.used) ≡ true
  valuetexts_lent e = rw valuetexts-are (text-clean e 4)

  events-ok : {x : Bool} → x ≡ events_ok (lent t p.names p.keytexts) c.clauses (event_rows c.events (lent t p.events p.clauses))
      → events_ok (parts_in t).names (length (parts_in t).clauses) (parts_in t).events ≡ x
  events-ok e = rw (clauses-many t, ← h.counts, ← names-are, ← events-are) (sym e)

  pub rows-events : {x : Bool} → x ≡ events_ok (lent t p.names p.keytexts) c.clauses (event_rows c.events (lent t p.events p.clauses))
      → x ≡ false → false ≡ rows_ok (parts_in t)
  unfolding rows_ok
  rows-events e f = broken _ 0 (events-ok e ∙ f)

  pub rows-clauses : {x y : Bool} → x ≡ events_ok (lent t p.names p.keytexts) c.clauses (event_rows c.events (lent t p.events p.clauses))
      → x ≡ true → y ≡ clauses_ok c.keys c.values (clause_rows c.clauses (lent t p.clauses p.keys)) → y ≡ rows_ok (parts_in t)
  unfolding rows_ok
  rows-clauses e f g = decided (events-ok e ∙ f also none_left) (rw (keys-many t, values-many t, ← h.counts, ← clauses-are) g)

  pub vocabulary_keys : {x : Bool} → x ≡ words_ok key_parts (lent t p.keytexts p.valuetexts) (word_rows c.keys (lent t p.keys p.values))
      → x ≡ false → false ≡ vocabulary_ok (parts_in t)
  unfolding vocabulary_ok
  vocabulary_keys e f = broken _ 0 (rw (← keytexts-are, ← keys-are) (sym e ∙ f))

  pub vocabulary_values : {x y : Bool} → x ≡ words_ok key_parts (lent t p.keytexts p.valuetexts) (word_rows c.keys (lent t p.keys p.values))
      → x ≡ true → y ≡ words_ok value_parts (lent t p.valuetexts p.used) (word_rows c.values (lent t p.values p.texts))
      → y ≡ vocabulary_ok (parts_in t)
  unfolding vocabulary_ok
  vocabulary_values e f g = decided (rw (← keytexts-are, ← keys-are) (sym e ∙ f) also none_left) (rw (← valuetexts-are, ← values-are) g)

-- ---- the whole

grouped : (a b c d e f : Bool) → all_of (a ∷ b ∷ c ∷ d ∷ e ∷ f ∷ []) ≡ all_of (all_of (a ∷ b ∷ []) ∷ all_of (c ∷ d ∷ []) ∷ all_of (e ∷ f ∷ []) ∷ [])
unfolding all_of
grouped true true true true true true = refl
grouped true true true true true false = refl
grouped true true true true false f = refl
grouped true true true false e f = refl
grouped true true false d e f = refl
grouped true false c d e f = refl
grouped false b c d e f = refl

-- the position's texts, the events and the clauses, the keys and the values
abbrev groups : Parts → List Bool
groups q = all_of (clean q.name ∷ clean q.symbol ∷ []) ∷ rows_ok q ∷ vocabulary_ok q ∷ []

parts_grouped : (q : Parts) → parts_ok q ≡ all_of (groups q)
unfolding parts_ok rows_ok vocabulary_ok
parts_grouped q = grouped _ _ _ _ _ _

-- texts whose parts are right are clean
parts-clean : (q : Parts) → parts_ok q ≡ true → texts_ok q ≡ true
unfolding parts_ok texts_ok every
parts-clean q e =
    rw (
      fact _ e 0,
      fact _ e 1,
      names-clean q.names (length q.clauses) q.events (fact _ e 2),
      words-clean key_parts q.keytexts q.keys (fact _ e 4),
      words-clean value_parts q.valuetexts q.values (fact _ e 5),
    )

neither : (b : Bool) → false ≡ (b && false)
neither true = refl
neither false = refl

module _ (t : List ℕ) where
  pub table_head : head_ok t ≡ false → is_table t ≡ false
  unfolding is_table
  table_head e = rw e

  table_texts : texts_ok (parts_in t) ≡ false → false ≡ is_table t
  unfolding is_table
  table_texts e = go (parts_ok (parts_in t)) refl
    where
      go : (b : Bool) → parts_ok (parts_in t) ≡ b → false ≡ (head_ok t && parts_ok (parts_in t))
      go true k = absurd (false≢true (sym e ∙ parts-clean (parts_in t) k))
      go false k = rw k (neither (head_ok t))

  -- group number i of the conditions on the parts fails
  table_parts : (i : ℕ) → get_or (groups (parts_in t)) i true ≡ false → false ≡ is_table t
  unfolding is_table
  table_parts i e = rw (parts_grouped (parts_in t), ← broken _ i e) (neither (head_ok t))

  table_last : head_ok t ≡ true → texts_ok (parts_in t) ≡ true → rows_ok (parts_in t) ≡ true → {x : Bool} → x ≡ vocabulary_ok (parts_in t) → x ≡ is_table t
  unfolding is_table texts_ok all_of
  table_last e f g h =
      let n = every_cons clean (parts_in t).name _ f in
      let s = every_cons clean (parts_in t).symbol _ n.1 in
      rw (e, parts_grouped (parts_in t), n.0, s.0) (decided (refl also g also none_left) h)

  -- where the header is right, the three tests decide
  pub table_is : head_ok t ≡ true → is_table t ≡ (texts_ok (parts_in t) && rows_ok (parts_in t) && vocabulary_ok (parts_in t))
  table_is e = go (texts_ok (parts_in t)) (rows_ok (parts_in t)) refl refl
    where
      go : (x y : Bool) → texts_ok (parts_in t) ≡ x → rows_ok (parts_in t) ≡ y → is_table t ≡ (x && y && vocabulary_ok (parts_in t))
      go true true f g = sym (table_last e f g refl)
      go true false f g = sym (table_parts 1 g)
      go false y f g = sym (table_texts f)
