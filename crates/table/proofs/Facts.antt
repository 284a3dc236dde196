-- What is known of bytes that are a table: their length, and how many events the sheet has that they mean, with which lots. Assumes nothing.
use Prim.Native.Nat.{ℕ, ◌≤◌}
use native.Mathlib.Omega.{arith}
use mathlib.Core.Bool.{Bool, true, false, ◌&&◌, and-eq-true_iff}
use mathlib.Core.List.{List, [], ◌∷◌, map}
use mathlib.Core.Path.{◌≡◌, refl}
use lib.ListN.{length, length-map}
use Rattle.text.specs.Answer.{Got, ◌>>=◌, must}
use Rattle.text.specs.Conditions.{every}
use Rattle.text.proofs.Conditions.{fact}
use Rattle.sheet.specs.Sheet.{Clause, Sheet, event_limit, lots_ok, lots_in}
use Rattle.table.specs.Layout.{table_length, counts_in, parts_in}
use Rattle.table.specs.Table.{head_ok, event_ok, events_ok, parts_ok, is_table, event_of, sheet_of, read_table}
use Rattle.table.specs.declared.EventRow.{EventRow}
use Rattle.table.proofs.Heads.{headed, events-many}
use Rattle.table.proofs.Spans.{both}

-- the bytes are a table, and the sheet is theirs
pub read_is : (t : List ℕ) (s : Sheet) → read_table t ≡ Got s → (is_table t ≡ true) × (sheet_of (parts_in t) ≡ s)
unfolding read_table
read_is t s e = go (is_table t) refl e
  where
    go : (b : Bool) → is_table t ≡ b → (must 9 b >>= λ _. Got (sheet_of (parts_in t))) ≡ Got s → (is_table t ≡ true) × (sheet_of (parts_in t) ≡ s)
    go true h e = (h, cc)
    go false h e = absurd (let z : ◌≡◌ {A = ℕ} 0 1 = cc in omega arith)

-- the header is right, and so are the parts
pub table_facts : (t : List ℕ) → is_table t ≡ true → (head_ok t ≡ true) × (parts_ok (parts_in t) ≡ true)
unfolding is_table
table_facts t e = go (head_ok t) (parts_ok (parts_in t)) e
  where
    go : (a b : Bool) → (a && b) ≡ true → (a ≡ true) × (b ≡ true)
    go true b e = (refl, e)
    go false b e = absurd (let z : ◌≡◌ {A = ℕ} 0 1 = cc in omega arith)

pub table_length_lem : (t : List ℕ) (s : Sheet) → read_table t ≡ Got s → length t ≡ table_length
table_length_lem t s e = (headed t (table_facts t (read_is t s e).0).0).size

pub events-count : (t : List ℕ) → length (sheet_of (parts_in t)).events ≡ (counts_in t).events
unfolding sheet_of
events-count t = rw length-map (events-many t)

pub table_events : (t : List ℕ) (s : Sheet) → read_table t ≡ Got s → length s.events ≤ event_limit
table_events t s e =
    let r = read_is t s e in
    rw (← r.1, events-count t) (headed t (table_facts t r.0).0).events-few

-- events whose rows are right
lots-right : (names : List ℕ) (cs : List Clause) (es : List EventRow) → every (event_ok names) es ≡ true
    → every (λ e. lots_ok e.lots) (map (event_of names cs) es) ≡ true
unfolding every event_ok event_of
lots-right names cs [] h = refl
lots-right names cs (e ∷ es) h =
    let b = both (event_ok names e) (every (event_ok names) es) h in
    let fine : lots_ok (lots_in e.kind) ≡ true = ((and-eq-true_iff (lots_ok (lots_in e.kind)) _).0 (fact _ b.0 0)).0 in
    rw fine (lots-right names cs es b.1)

pub table_lots : (t : List ℕ) (s : Sheet) → read_table t ≡ Got s → every (λ e. lots_ok e.lots) s.events ≡ true
unfolding sheet_of parts_ok events_ok
table_lots t s e =
    let r = read_is t s e in
    rw (← r.1) (lots-right (parts_in t).names _ (parts_in t).events (fact _ (fact _ (table_facts t r.0).1 2) 0))
