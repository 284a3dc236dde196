-- A table from before scores up to 1,000, from before lots, or from before a trading day could open in the evening means what it meant.
-- Assumes nothing.
use Prim.Native.Nat.{ℕ, zero, suc, ◌≤◌}
use native.Mathlib.Omega.{arith}
use mathlib.Core.Bool.{true, and-eq-true_iff}
use mathlib.Core.List.{List, [], ◌∷◌, map}
use mathlib.Core.Path.{◌≡◌, refl, ap}
use borrow.Author.Tests.{eqb-true, leb-true, le-leb}
use lib.Dec.{eqb}
use lib.ListN.{length, get_or}
use Rattle.le.specs.Field.{u16, u32}
use Rattle.le.proofs.Laws.{two, four}
use Rattle.text.specs.Answer.{Got}
use Rattle.text.specs.Conditions.{every}
use Rattle.text.proofs.Conditions.{none_left, ◌also◌, sure, fact}
use Rattle.text.proofs.Every.{every_passes, every-same}
use Rattle.signal.specs.Signal.{score_limit}
use Rattle.sheet.specs.Sheet.{Clause, t0_limit, exit_in, lots_in}
use Rattle.table.specs.Layout.{table_length, layout_number, layout_in, settings_in, counts_in, places_in, parts_in}
use Rattle.table.specs.Table.{settings_ok, counts_ok, places_ok, head_ok, kind_ok, event_ok, events_ok, clause_ok, clauses_ok, parts_ok, is_table, event_of, sheet_of, read_table}
use Rattle.table.specs.declared.EventRow.{EventRow}
use Rattle.table.specs.declared.ClauseRow.{ClauseRow}
use Rattle.table_older.specs.Older.{Landing, BeforeThousandths, BeforeLots, BeforeEvening, t0_was, evening_was, kind_was, exit_was, lots_were, score_limit_was, settings_were, head_was, event_was, events_were, clause_was, clauses_were, parts_were, was_table, event_meant, meant_before}

-- ---- events

-- a kind without lots
plain-kind : (k : ℕ) → k ≤ 1 → (kind_ok k ≡ true) × (exit_in k ≡ eqb k 1) × (lots_in k ≡ 1)
plain-kind zero h = (refl, refl, refl)
plain-kind (suc zero) h = (refl, refl, refl)
plain-kind (suc (suc k)) h = absurd (omega arith)

kind-kept : (l : Landing) (k : ℕ) → kind_was l k ≡ true → (kind_ok k ≡ true) × (exit_in k ≡ exit_was l k) × (lots_in k ≡ lots_were l k)
kind-kept BeforeThousandths k h = (h, refl, refl)
kind-kept BeforeLots k h = plain-kind k (leb-true k 1 h)
kind-kept BeforeEvening k h = plain-kind k (leb-true k 1 h)

module _ (l : Landing) (names : List ℕ) where
  event_passes : (e : EventRow) → event_was l names e ≡ true → event_ok names e ≡ true
  unfolding event_was event_ok
  event_passes e h =
      let was = fact _ h in
      sure ((kind-kept l e.kind (was 0)).0 also was 1 also was 2 also was 3 also none_left)

  event_same : (cs : List Clause) (e : EventRow) → event_was l names e ≡ true → event_of names cs e ≡ event_meant l names cs e
  unfolding event_was event_of event_meant
  event_same cs e h = let k = kind-kept l e.kind (fact _ h 0) in rw (k.1, k.2)

-- ---- clauses

clause_passes : (k v : ℕ) (c : ClauseRow) → clause_was k v c ≡ true → clause_ok k v c ≡ true
unfolding clause_was clause_ok
clause_passes k v c h =
    let was = fact _ h in
    let low = leb-true c.score score_limit_was (was 5) in
    sure (was 0 also was 1 also was 2 also was 3 also was 4 also le-leb c.score score_limit (omega arith) also none_left)

-- ---- t0 in four bytes

module _ (t : List ℕ) (long : 20 ≤ length t) where
  t0-same : (l : Landing) → t0_was l t ≤ t0_limit → u16 t 16 ≡ t0_was l t
  t0-same BeforeThousandths small = refl
  t0-same BeforeLots small = refl
  t0-same BeforeEvening small = omega (arith, two t 16 (omega arith), four t 16 (omega arith))

  evening-same : (l : Landing) → t0_was l t ≤ t0_limit → u16 t 18 ≡ evening_was l t
  evening-same BeforeThousandths small = refl
  evening-same BeforeLots small = refl
  evening-same BeforeEvening small = omega (arith, two t 18 (omega arith), four t 16 (omega arith))

-- ---- a table

module _ (l : Landing) (t : List ℕ) (e : was_table l t ≡ true) where
  halves : (head_was l t ≡ true) × (parts_were l (parts_in t) ≡ true)
  unfolding was_table
  halves = (and-eq-true_iff (head_was l t) (parts_were l (parts_in t))).0 e

  head_was_lem : (i : ℕ) → get_or (eqb (length t) table_length ∷ eqb (layout_in t) layout_number ∷ settings_were l t ∷ counts_ok (counts_in t) ∷ places_ok (counts_in t) (places_in t) ∷ []) i true ≡ true
  unfolding head_was
  head_was_lem = fact _ halves.0

  long : 20 ≤ length t
  long = omega (arith, eqb-true (length t) table_length (head_was_lem 0))

  small : t0_was l t ≤ t0_limit
  unfolding settings_were
  small = leb-true (t0_was l t) t0_limit (fact _ (head_was_lem 2) 3)

  settings-ok : settings_ok (settings_in t) ≡ true
  unfolding settings_were settings_ok settings_in
  settings-ok = rw (t0-same t long l small, evening-same t long l small) (head_was_lem 2)

  rows_were : every (event_was l (parts_in t).names) (parts_in t).events ≡ true
  unfolding parts_were events_were
  rows_were = fact _ (fact _ halves.1 2) 0

  parts-ok : parts_ok (parts_in t) ≡ true
  unfolding parts_were parts_ok events_were events_ok clauses_were clauses_ok
  parts-ok =
      let p = parts_in t in
      let was = fact _ halves.1 in
      let events = fact _ (was 2) in
      let clauses = fact _ (was 3) in
      sure
      (was 0
      also was 1
      also sure (every_passes (event_was l p.names) (event_ok p.names) (event_passes l p.names) p.events rows_were also events 1 also events 2 also none_left)
      also sure (every_passes _ _ (clause_passes (length p.keys) (length p.values)) p.clauses (clauses 0) also clauses 1 also clauses 2 also none_left)
      also was 4
      also was 5
      also none_left)

  is_table_lem : is_table t ≡ true
  unfolding is_table head_ok
  is_table_lem = rw (sure (head_was_lem 0 also head_was_lem 1 also settings-ok also head_was_lem 3 also head_was_lem 4 also none_left)) parts-ok

  events-same : (cs : List Clause) → map (event_of (parts_in t).names cs) (parts_in t).events ≡ map (event_meant l (parts_in t).names cs) (parts_in t).events
  events-same cs = every-same (event_was l (parts_in t).names) _ _ (event_same l (parts_in t).names cs) (parts_in t).events rows_were

  means : sheet_of (parts_in t) ≡ meant_before l t
  unfolding meant_before sheet_of parts_in settings_in
  means = rw (t0-same t long l small, evening-same t long l small, events-same _)

  -- what was a table is one, and means what it meant
  pub older_kept : read_table t ≡ Got (meant_before l t)
  unfolding read_table
  older_kept = rw is_table_lem (ap Got means)
