-- One clause more: what its nine numbers, and one more in the last event's count, make of a sheet. Assumes nothing.
use Prim.Native.Nat.{ℕ, suc, ◌+◌, ◌*◌, ◌<◌, ◌≤◌}
use native.Mathlib.Omega.{arith}
use native.Mathlib.Decide.{dec_lt}
use native.Mathlib.Numerals.{add-one}
use mathlib.Core.Path.{◌≡◌, ◌∙◌, refl, sym, ap}
use mathlib.Core.List.{List, [], ◌∷◌, ◌++◌}
use lib.ListN.{length, get_or, take, drop, length-append, length-drop}
use lib.Seq.{get_or-drop, take_all, take-append-le, drop-append-le}
use Rattle.list.specs.Numbered.{rows}
use Rattle.list.proofs.Laws.{rows-length}
use Rattle.le.specs.Le.{patch}
use Rattle.signal.specs.Read.{SignalOk, signal_in}
use Rattle.signal.specs.declared.SignalAt.{SignalAt}
use Rattle.sheet.specs.Sheet.{kind_of, Clause, Event, clause_limit, exit_in}
use Rattle.sheet.specs.Read.{with_events, add_clause}
use Rattle.sheet.specs.Places.{clause_at, clauses_at, clauses_before, ClauseOk, event_at, event_number, EventOk, sheet_at, SheetOk}
use Rattle.sheet.specs.declared.SheetAt.{SheetAt}
use Rattle.sheet_numbers.specs.Counted.{counted}
use Rattle.sheet_numbers.proofs.Rows.{number_same, event_same, event_ok-same, clause-same, clause_ok-same, rows_snoc, row_before, row_here}
use Rattle.sheet_numbers.proofs.Counts.{before-next, before_same, span_within, settings-kept}

-- ---- of lists

-- an event with one clause more
abbrev with_clause : Clause → Event → Event
with_clause c e = record { exit = e.exit; operate = e.operate; name = e.name; lots = e.lots; clauses = e.clauses ++ c ∷ [] }

add-last : (c : Clause) (es : List Event) (e : Event) → add_clause c (es ++ e ∷ []) ≡ es ++ with_clause c e ∷ []
unfolding add_clause
add-last c [] e = refl
add-last c (d ∷ []) e = refl
add-last c (d ∷ b ∷ es) e = ap (λ l. d ∷ l) (add-last c (b ∷ es) e)

-- a span that lies before the end stays, and one that ends there grows
span_stays : (cs : List Clause) (c : Clause) (first count : ℕ) → first + count ≤ length cs → take count (drop first (cs ++ c ∷ [])) ≡ take count (drop first cs)
span_stays cs c first count h =
    let k : first ≤ length cs = omega arith in
    let g : count ≤ length (drop first cs) = rw length-drop (omega arith) in
    rw (drop-append-le first cs (c ∷ []) k, take-append-le count (drop first cs) (c ∷ []) g)

span_grows : (cs : List Clause) (c : Clause) (first count : ℕ) → first + count ≡ length cs → take (count + 1) (drop first (cs ++ c ∷ [])) ≡ take count (drop first cs) ++ c ∷ []
span_grows cs c first count h =
    let k : first ≤ length cs = omega arith in
    let n : length (drop first cs) ≡ count = rw length-drop (omega arith) in
    let g : length (drop first cs ++ c ∷ []) ≤ count + 1 = rw length-append (omega arith) in
    rw (drop-append-le first cs (c ∷ []) k, take_all (count + 1) (drop first cs ++ c ∷ []) g, take_all count (drop first cs) (omega arith))

-- ---- of a sheet

-- the numbers of a clause that is read, and what holds of them
pub record ClauseNumbers (s es cs : List ℕ) (a : SheetAt) (last kind from : ℕ) (g : SignalAt) : Type 0 where
  pub events-room : length es ≡ 192
  pub room : length cs ≡ 2304
  pub behind : suc last ≡ a.events
  pub free : a.clauses < clause_limit
  pub kind-low : kind ≤ 2
  pub within : from ≤ length s
  pub signal : SignalOk (drop from s) g

module _ {s es cs : List ℕ} {a : SheetAt} (ok : SheetOk s es cs a) {last kind from : ℕ} {g : SignalAt} (e : ClauseNumbers s es cs a last kind from g) where
  row : List ℕ
  row = kind ∷ from ∷ g.k1 ∷ g.k2 ∷ g.k3 ∷ g.v1 ∷ g.v2 ∷ g.v3 ∷ g.score ∷ []

  after : List ℕ
  after = patch cs (9 * a.clauses) row

  fits : 9 * a.clauses + 9 ≤ length cs
  fits = omega (arith, e.room, e.free)

  earlier : (i : ℕ) → i < a.clauses → take 9 (drop (9 * i) after) ≡ take 9 (drop (9 * i) cs)
  unfolding after row
  earlier i h = row_before cs (9 * a.clauses) row fits (9 * i) 9 (omega arith)

  here : take 9 (drop (9 * a.clauses) after) ≡ take 9 row
  unfolding after row
  here = row_here cs (9 * a.clauses) row fits

  new : Clause
  new = record { kind = kind_of kind; signal = signal_in (drop from s) g }

  new_is : clause_at s (drop (9 * a.clauses) after) ≡ new
  unfolding clause_at row new
  new_is = clause-same (drop (9 * a.clauses) after) row here s

  clauses-are : clauses_at s after (counted a a.events (a.clauses + 1)) ≡ clauses_at s cs a ++ new ∷ []
  clauses-are = rw add-one (
      rows_snoc (clause_at s) (clause_at s) 9 a.clauses cs after (λ i h. clause-same (drop (9 * i) after) (drop (9 * i) cs) (earlier i h) s)
      ∙ ap (λ x. rows (clause_at s) 9 a.clauses cs ++ x ∷ []) new_is)

  clauses-ok : (i : ℕ) → i < a.clauses + 1 → ClauseOk s (drop (9 * i) after)
  unfolding row
  clauses-ok i h = elim (dec_lt i a.clauses) [
    | yes l ↦ clause_ok-same (drop (9 * i) cs) (drop (9 * i) after) (sym (earlier i l)) (ok.clauses i l)
    | no l ↦ let k : i ≡ a.clauses = omega arith in rw k (clause_ok-same row (drop (9 * a.clauses) after) (sym here) fresh)
  ]
    where
      fresh : ClauseOk s row
      fresh = record { kind = e.kind-low; within = e.within; signal = e.signal }

  -- ---- the last event's count

  count : ℕ
  count = event_number es last 5

  bumped : List ℕ
  bumped = patch es (6 * last + 5) ((count + 1) ∷ [])

  bump_fits : 6 * last + 5 + 1 ≤ length es
  bump_fits = omega (arith, e.events-room, e.behind, ok.few)

  kept : (i n : ℕ) → 6 * i + n ≤ 6 * last + 5 → take n (drop (6 * i) bumped) ≡ take n (drop (6 * i) es)
  unfolding bumped
  kept i n h = row_before es (6 * last + 5) ((count + 1) ∷ []) bump_fits (6 * i) n h

  kept-number : (i j : ℕ) → 6 * i + j < 6 * last + 5 → event_number bumped i j ≡ event_number es i j
  kept-number i j h = number_same (suc j) j (drop (6 * i) bumped) (drop (6 * i) es) (kept i (suc j) (omega arith)) (omega arith)

  counted-one : event_number bumped last 5 ≡ count + 1
  unfolding bumped
  counted-one =
      let z : 6 * last + 5 ≡ 6 * last + 5 + 0 = omega arith in
      get_or-drop (6 * last) bumped 5 0 ∙ ap (λ n. get_or bumped n 0) z ∙ sym (get_or-drop (6 * last + 5) bumped 0 0)
      ∙ number_same 1 0 (drop (6 * last + 5) bumped) ((count + 1) ∷ []) (row_here es (6 * last + 5) ((count + 1) ∷ []) bump_fits) (omega arith)

  before_old : (n : ℕ) → n ≤ last → clauses_before bumped n ≡ clauses_before es n
  before_old n h = before_same bumped es n (λ i k. kept-number i 5 (omega arith))

  before-all : clauses_before bumped a.events ≡ a.clauses + 1
  unfolding count
  before-all =
      omega (arith, ap (clauses_before bumped) e.behind, before-next bumped last, before-next es last, before_old last (omega arith), counted-one, ap (clauses_before es) e.behind, ok.all)

  events-ok : (i : ℕ) → i < a.events → EventOk s (clauses_before bumped i) (drop (6 * i) bumped)
  events-ok i h = rw (before_old i (omega (arith, e.behind))) (event_ok-same (drop (6 * i) es) (drop (6 * i) bumped) (sym (kept i 5 (omega (arith, e.behind)))) (ok.events i h))

  -- ---- the events

  size : length (clauses_at s cs a) ≡ a.clauses
  size = rows-length (clause_at s) 9 a.clauses cs

  earlier_event : (i : ℕ) → i < last → event_at s (clauses_at s cs a ++ new ∷ []) (drop (6 * i) bumped) ≡ event_at s (clauses_at s cs a) (drop (6 * i) es)
  unfolding event_at
  earlier_event i h =
      event_same (drop (6 * i) bumped) (drop (6 * i) es) (kept i 5 (omega arith)) s (clauses_at s cs a ++ new ∷ []) (kept-number i 5 (omega arith))
      ∙ rw (span_stays (clauses_at s cs a) new (event_number es i 4) (event_number es i 5) (omega (arith, span_within ok i (omega (arith, e.behind)), size)))

  last_event : event_at s (clauses_at s cs a ++ new ∷ []) (drop (6 * last) bumped) ≡ with_clause new (event_at s (clauses_at s cs a) (drop (6 * last) es))
  unfolding event_at count
  last_event =
      rw (kept-number last 0 (omega arith), kept-number last 1 (omega arith), kept-number last 2 (omega arith), kept-number last 3 (omega arith), kept-number last 4 (omega arith), counted-one, span_grows (clauses_at s cs a) new (event_number es last 4) (event_number es last 5) full)
    where
      full : event_number es last 4 + event_number es last 5 ≡ length (clauses_at s cs a)
      full = omega (arith, (ok.events last (omega (arith, e.behind))).clauses, before-next es last, ap (clauses_before es) e.behind, ok.all, size)

  events-are : rows (event_at s (clauses_at s cs a ++ new ∷ [])) 6 a.events bumped ≡ add_clause new (rows (event_at s (clauses_at s cs a)) 6 a.events es)
  events-are =
      ap (λ n. rows (event_at s (clauses_at s cs a ++ new ∷ [])) 6 n bumped) (sym e.behind)
      ∙ rows_snoc old (event_at s (clauses_at s cs a ++ new ∷ [])) 6 last es bumped earlier_event
      ∙ ap (λ x. rows old 6 last es ++ x ∷ []) last_event
      ∙ sym (ap (add_clause new) (rows_snoc old old 6 last es es (λ i h. refl)) ∙ add-last new (rows old 6 last es) (old (drop (6 * last) es)))
      ∙ ap (λ n. add_clause new (rows old 6 n es)) e.behind
    where
      old : List ℕ → Event
      old = event_at s (clauses_at s cs a)

  pub clause-added : sheet_at s (patch es (6 * last + 5) ((event_number es last 5 + 1) ∷ [])) (patch cs (9 * a.clauses) (kind ∷ from ∷ g.k1 ∷ g.k2 ∷ g.k3 ∷ g.v1 ∷ g.v2 ∷ g.v3 ∷ g.score ∷ [])) (counted a a.events (a.clauses + 1))
      ≡ with_events (sheet_at s es cs a) (add_clause (record { kind = kind_of kind; signal = signal_in (drop from s) g }) (sheet_at s es cs a).events)
  unfolding sheet_at after row new bumped count
  clause-added = ap (with_events (sheet_at s es cs a)) (ap (λ c. rows (event_at s c) 6 a.events bumped) clauses-are ∙ events-are)

  pub clause-ok : SheetOk s (patch es (6 * last + 5) ((event_number es last 5 + 1) ∷ [])) (patch cs (9 * a.clauses) (kind ∷ from ∷ g.k1 ∷ g.k2 ∷ g.k3 ∷ g.v1 ∷ g.v2 ∷ g.v3 ∷ g.score ∷ [])) (counted a a.events (a.clauses + 1))
  unfolding after row bumped count
  clause-ok = record {
    name = ok.name;
    symbol = ok.symbol;
    within = ok.within;
    brief-name = ok.brief-name;
    brief-symbol = ok.brief-symbol;
    settings = settings-kept ok.settings a.events (a.clauses + 1);
    few = ok.few;
    short = omega (arith, e.free);
    events = events-ok;
    all = before-all;
    clauses = clauses-ok;
    rise = λ i h x. ap (λ k. exit_in k) (kept-number (suc i) 0 (omega (arith, e.behind))) ∙ ok.rise i h (sym (ap (λ k. exit_in k) (kept-number i 0 (omega (arith, e.behind)))) ∙ x);
  }
