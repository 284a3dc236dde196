-- Events with one event more, or with one clause more: how many, how heavy, and still fine. Assumes nothing.
use Prim.Native.Nat.{◌+◌, ◌≤◌}
use native.Mathlib.Omega.{arith}
use mathlib.Core.Bool.{true}
use mathlib.Core.List.{List, [], ◌∷◌, ◌++◌}
use mathlib.Core.Path.{◌≡◌, ◌∙◌, refl}
use lib.ListN.{length, length-append}
use Rattle.text.specs.Conditions.{every}
use Rattle.sheet.specs.Sheet.{Clause, Event, clause_count}
use Rattle.sheet.specs.Read.{add_clause}
use Rattle.table_limits.specs.Fine.{fine_clause, fine_event, clause_weight, clauses_weight, events_weight}
use Rattle.table_limits.proofs.Facts.{event_facts, event_sure}
use Rattle.text.proofs.Every.{every_one, every_cons, cons_every, every_append}

-- ---- one event more

pub count-append : (es ds : List Event) → clause_count (es ++ ds) ≡ clause_count es + clause_count ds
unfolding clause_count
count-append [] ds = omega arith
count-append (e ∷ es) ds = omega (arith, count-append es ds)

pub weight-append : (es ds : List Event) → events_weight (es ++ ds) ≡ events_weight es + events_weight ds
unfolding events_weight
weight-append [] ds = omega arith
weight-append (e ∷ es) ds = omega (arith, weight-append es ds)

-- ---- one clause more

pub clauses-append : (cs ds : List Clause) → clauses_weight (cs ++ ds) ≡ clauses_weight cs + clauses_weight ds
unfolding clauses_weight
clauses-append [] ds = omega arith
clauses-append (c ∷ cs) ds = omega (arith, clauses-append cs ds)

-- an event with one clause more
abbrev with : Clause → Event → Event
with c e = record { exit = e.exit; operate = e.operate; name = e.name; lots = e.lots; clauses = e.clauses ++ c ∷ [] }

with_fine : (c : Clause) (e : Event) → fine_clause c ≡ true → fine_event e ≡ true → fine_event (with c e) ≡ true
with_fine c e h k =
    let f = event_facts e k in
    event_sure (with c e) (record {
      operate = f.operate;
      short_name = f.short_name;
      clean_name = f.clean_name;
      lots = f.lots;
      clauses = every_append fine_clause e.clauses (c ∷ []) f.clauses (every_one fine_clause c ∙ h);
    })

module _ (c : Clause) where
  pub add-length : (es : List Event) → length (add_clause c es) ≡ length es
  unfolding add_clause
  add-length [] = refl
  add-length (e ∷ []) = refl
  add-length (e ∷ d ∷ es) = omega (arith, add-length (d ∷ es))

  pub add-count : (es : List Event) → clause_count (add_clause c es) ≤ clause_count es + 1
  unfolding add_clause clause_count
  add-count [] = omega arith
  add-count (e ∷ []) = omega (arith, length-append e.clauses (c ∷ []))
  add-count (e ∷ d ∷ es) = omega (arith, add-count (d ∷ es))

  pub add-weight : (es : List Event) → events_weight (add_clause c es) ≤ events_weight es + clause_weight c
  unfolding add_clause events_weight clauses_weight
  add-weight [] = omega arith
  add-weight (e ∷ []) = omega (arith, clauses-append e.clauses (c ∷ []))
  add-weight (e ∷ d ∷ es) = omega (arith, add-weight (d ∷ es))

  pub add-fine : (es : List Event) → fine_clause c ≡ true → every fine_event es ≡ true → every fine_event (add_clause c es) ≡ true
  unfolding add_clause
  add-fine [] h k = k
  add-fine (e ∷ []) h k =
      let x = every_cons fine_event e [] k in
      cons_every fine_event (with c e) [] (with_fine c e h x.0) x.1
  add-fine (e ∷ d ∷ es) h k =
      let x = every_cons fine_event e (d ∷ es) k in
      cons_every fine_event e (add_clause c (d ∷ es)) x.0 (add-fine (d ∷ es) h x.1)
