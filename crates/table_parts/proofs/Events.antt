-- The rows of events: they mean the sheet's events; their names, and their clauses, follow each other. Assumes nothing.
use Prim.Native.Nat.{ℕ, zero, suc, ◌+◌, ◌*◌, ◌/◌, ◌<◌, ◌≤◌}
use native.Mathlib.Omega.{arith}
use native.Mathlib.Decide.{dec_lt}
use mathlib.Core.Bool.{Bool, true, false, not, ◌||◌, and-eq-true_iff}
use mathlib.Core.List.{List, [], ◌∷◌, ◌++◌, map, append_assoc, append-nil}
use mathlib.Core.Path.{◌≡◌, refl, sym, ap, ◌∙◌}
use borrow.Author.Tests.{eq-eqb, le-leb, leb-true}
use lib.Dec.{leb, eqb}
use lib.ListN.{length, get_or, take, drop, length-take, length-drop, length-append}
use lib.Seq.{take-add, take-length}
use Rattle.list.specs.Numbered.{numbered, rows}
use Rattle.list.proofs.Laws.{numbered-map, numbered-same}
use Rattle.le.specs.Le.{part}
use Rattle.le.proofs.Places.{part_mid}
use Rattle.text.proofs.Conditions.{◌also◌, none_left, sure}
use Rattle.sheet.specs.Sheet.{Clause, Event, name_limit, lots_limit, lots_ok, exit_in, lots_in}
use Rattle.sheet.specs.Places.{event_numbers, event_at, clauses_before}
use Rattle.table_words.specs.Words.{clean}
use Rattle.table_limits.specs.Fine.{all_clauses, names_weight}
use Rattle.table_limits.proofs.Facts.{EventFacts}
use Rattle.table.specs.Layout.{event_text}
use Rattle.table.specs.Table.{follow, kind_ok, event_ok, events_ok, event_of}
use Rattle.table_layout.specs.Fits.{EventFits, AllAt}
use Rattle.table_layout.proofs.Sized.{all-numbered}
use Rattle.table_parts.specs.Draft.{names_at, names_length, event_row, event_rows}
use Rattle.table_parts.proofs.Rows.{numbered-every, follow-numbered, sum-end}

-- number j of event i
abbrev number_at : List ℕ → ℕ → ℕ → ℕ
number_at es i j = get_or (drop (event_numbers * i) es) j 0

-- n events of a sheet, with the clauses cs together
pub record Chain (s es : List ℕ) (cs : List Clause) (n : ℕ) : Type 0 where
  pub single : (i : ℕ) → i < n → exit_in (number_at es i 0) ≡ true → lots_in (number_at es i 0) ≡ 1
  pub name : (i : ℕ) → i < n → number_at es i 2 + number_at es i 3 ≤ length s
  pub clauses : (i : ℕ) → i < n → number_at es i 4 ≡ clauses_before es i
  pub all : clauses_before es n ≡ length cs
  pub fine : (i : ℕ) → i < n → EventFacts (event_at s cs (drop (event_numbers * i) es))

-- the number of an event's kind
kind-fine : (k : ℕ) → lots_ok (lots_in k) ≡ true → (exit_in k ≡ true → lots_in k ≡ 1) → kind_ok k ≡ true
kind-fine k h single = rw h (go (exit_in k) refl)
  where
    go : (x : Bool) → exit_in k ≡ x → (not x || eqb (lots_in k) 1) ≡ true
    go true e = eq-eqb (lots_in k) 1 (single e)
    go false e = refl

kind_fits : (k : ℕ) → lots_ok (lots_in k) ≡ true → k < 65536
kind_fits k h = omega (arith, leb-true (k / 2 + 1) lots_limit ((and-eq-true_iff (leb 1 (k / 2 + 1)) (leb (k / 2 + 1) lots_limit)).0 h).1)

length_part : (s : List ℕ) (at len : ℕ) → at + len ≤ length s → length (part s at len) ≡ len
unfolding part
length_part s at len h = omega (arith, length-take len (drop at s), length-drop at s)

-- ---- names, one after another

-- the name of event i
abbrev name_at : List ℕ → List ℕ → ℕ → List ℕ
name_at s es i = part s (number_at es i 2) (number_at es i 3)

names-split : (s es : List ℕ) (n i : ℕ) → i < n → (rest : List ℕ) × (names_at s es n ≡ names_at s es i ++ name_at s es i ++ rest)
unfolding names_at
names-split s es zero i h = absurd (omega arith)
names-split s es (suc n) i h = elim (dec_lt i n) [
  | yes l ↦
      let r = names-split s es n i l in
      (r.0 ++ name_at s es n, ap (λ (l : List ℕ). l ++ name_at s es n) r.1 ∙ append_assoc (names_at s es i ++ name_at s es i) r.0 (name_at s es n))
  | no l ↦
      let e : i ≡ n = omega arith in
      ([], rw e (sym (append-nil (names_at s es n ++ name_at s es n))))
]

-- ---- one event more

all_append : (es ds : List Event) → all_clauses (es ++ ds) ≡ all_clauses es ++ all_clauses ds
unfolding all_clauses
all_append [] ds = refl
all_append (e ∷ es) ds = ap (λ (l : List Clause). e.clauses ++ l) (all_append es ds) ∙ sym (append_assoc e.clauses (all_clauses es) (all_clauses ds))

names-append : (es ds : List Event) → names_weight (es ++ ds) ≡ names_weight es + names_weight ds
unfolding names_weight
names-append [] ds = omega arith
names-append (e ∷ es) ds = omega (arith, names-append es ds)

-- names that lie in s are as long as they say
module _ (s es : List ℕ) (n : ℕ) (within : (i : ℕ) → i < n → number_at es i 2 + number_at es i 3 ≤ length s) where
  name-within : (i : ℕ) → i < n → length (name_at s es i) ≡ number_at es i 3
  name-within i h = length_part s (number_at es i 2) (number_at es i 3) (within i h)

  pub names-within : (k : ℕ) → k ≤ n → length (names_at s es k) ≡ names_length es k
  unfolding names_at names_length
  names-within zero h = refl
  names-within (suc k) h = omega (arith, length-append (names_at s es k) (name_at s es k), name-within k (omega arith), names-within k (omega arith))

module _ {s es : List ℕ} {cs : List Clause} {n : ℕ} (c : Chain s es cs n) where
  name-length : (i : ℕ) → i < n → length (name_at s es i) ≡ number_at es i 3
  name-length = name-within s es n c.name

  names-to : (k : ℕ) → k ≤ n → length (names_at s es k) ≡ names_length es k
  names-to = names-within s es n c.name

  pub names-length : length (names_at s es n) ≡ names_length es n
  names-length = names-to n (omega arith)

  abbrev event : ℕ → Event
  event i = event_at s cs (drop (event_numbers * i) es)

  -- ---- event i

  module _ (i : ℕ) (h : i < n) where
    name-text : event_text (names_at s es n) (event_row es i) ≡ name_at s es i
    unfolding event_text event_row
    name-text =
        let r = names-split s es n i h in
        rw r.1 (part_mid (names_at s es i) (name_at s es i) r.0 (names_length es i) (number_at es i 3) (names-to i (omega arith)) (name-length i h))

    event_back : event_of (names_at s es n) cs (event_row es i) ≡ event i
    unfolding event_of event_row event_at
    event_back = rw name-text

    event_short : number_at es i 3 ≤ name_limit
    unfolding event_at
    event_short = omega (arith, (c.fine i h).short_name, name-length i h)

    event_fine : event_ok (names_at s es n) (event_row es i) ≡ true
    unfolding event_ok event_row event_at
    event_fine =
        let f = c.fine i h in
        sure
        (kind-fine (number_at es i 0) f.lots (c.single i h)
        also le-leb (number_at es i 1) 6 f.operate
        also le-leb (number_at es i 3) name_limit event_short
        also ap clean name-text ∙ f.clean_name
        also none_left)

    event_fits : length (names_at s es n) < 65536 → length cs < 65536 → EventFits (event_row es i)
    unfolding event_row event_at names_length clauses_before
    event_fits small few =
        let spans = sum-end (clauses_before es) (λ i. number_at es i 5) n (λ i h. refl) i h in
        let names = sum-end (names_length es) (λ i. number_at es i 3) n (λ i h. refl) i h in
        record {
          kind = kind_fits (number_at es i 0) (c.fine i h).lots;
          operate = omega (arith, (c.fine i h).operate);
          at = omega (arith, names, names-length);
          len = omega (arith, names, names-length);
          first = omega (arith, c.clauses i h, spans, c.all);
          count = omega (arith, spans, c.all);
        }

  -- ---- all of them

  pub events_mean : map (event_of (names_at s es n) cs) (event_rows es n) ≡ rows (event_at s cs) event_numbers n es
  unfolding rows
  events_mean =
      numbered-map (event_of (names_at s es n) cs) (event_row es) n
      ∙ numbered-same (λ i. event_of (names_at s es n) cs (event_row es i)) event n event_back

  names-follow : follow (λ e. e.at) (λ e. e.len) 0 (length (names_at s es n)) (event_rows es n) ≡ true
  unfolding event_row names_length
  names-follow = rw names-length (follow-numbered (λ e. e.at) (λ e. e.len) (event_row es) n (names_length es) (λ i h. refl) (λ i h. refl))

  clauses-follow : follow (λ e. e.first) (λ e. e.count) 0 (length cs) (event_rows es n) ≡ true
  unfolding event_row clauses_before
  clauses-follow =
      rw (← c.all) (follow-numbered (λ e. e.first) (λ e. e.count) (event_row es) n (clauses_before es) c.clauses (λ i h. refl))

  pub events-ok : events_ok (names_at s es n) (length cs) (event_rows es n) ≡ true
  unfolding events_ok
  events-ok =
      sure (numbered-every (event_ok (names_at s es n)) (event_row es) n event_fine also names-follow also clauses-follow also none_left)

  pub events-fit : length (names_at s es n) < 65536 → length cs < 65536 → AllAt EventFits (event_rows es n)
  events-fit small few = all-numbered EventFits (event_row es) n (λ i h. event_fits i h small few)

  -- ---- their clauses and names together

  clauses-to : (k : ℕ) → k ≤ n → all_clauses (rows (event_at s cs) event_numbers k es) ≡ take (clauses_before es k) cs
  unfolding rows numbered all_clauses event_at clauses_before
  clauses-to zero h = refl
  clauses-to (suc k) h =
      all_append (rows (event_at s cs) event_numbers k es) (event k ∷ [])
      ∙ rw (clauses-to k (omega arith), c.clauses k h, append-nil (take (number_at es k 5) (drop (clauses_before es k) cs)))
      (sym (take-add (clauses_before es k) (number_at es k 5) cs))

  pub all-clauses : all_clauses (rows (event_at s cs) event_numbers n es) ≡ cs
  all-clauses = clauses-to n (omega arith) ∙ rw c.all (take-length cs)

  weight-to : (k : ℕ) → k ≤ n → names_weight (rows (event_at s cs) event_numbers k es) ≡ names_length es k
  unfolding rows numbered names_weight names_length event_at
  weight-to zero h = refl
  weight-to (suc k) h =
      omega (arith, names-append (rows (event_at s cs) event_numbers k es) (event k ∷ []), weight-to k (omega arith), name-length k h)

  pub names-weight : names_weight (rows (event_at s cs) event_numbers n es) ≡ names_length es n
  names-weight = weight-to n (omega arith)
