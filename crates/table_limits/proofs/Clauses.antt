-- The clauses of all events of a sheet: how many, how heavy, and each of them fine. Assumes nothing.
use Prim.Native.Nat.{ℕ, ◌+◌, ◌<◌}
use native.Mathlib.Omega.{arith}
use mathlib.Core.Bool.{true}
use mathlib.Core.List.{List, [], ◌∷◌}
use mathlib.Core.Path.{◌≡◌, refl}
use lib.ListN.{length, length-append, get_or}
use Rattle.text.specs.Conditions.{every}
use Rattle.sheet.specs.Sheet.{Clause, Event, Sheet, clause_count}
use Rattle.table_limits.specs.Fine.{fine_clause, fine_event, all_clauses, clauses_weight, events_weight, names_weight, weight, fine_sheet}
use Rattle.text.proofs.Every.{every_cons, every_append, every-below}
use Rattle.table_limits.proofs.Events.{clauses-append}
use Rattle.table_limits.proofs.Facts.{ClauseFacts, clause_facts, EventFacts, event_facts, sheet_facts}

-- ---- how many, and how heavy

pub all-count : (es : List Event) → length (all_clauses es) ≡ clause_count es
unfolding all_clauses clause_count
all-count [] = refl
all-count (e ∷ es) = omega (arith, length-append e.clauses (all_clauses es), all-count es)

events-weight : (es : List Event) → names_weight es + clauses_weight (all_clauses es) ≡ events_weight es
unfolding all_clauses names_weight clauses_weight events_weight
events-weight [] = refl
events-weight (e ∷ es) = omega (arith, clauses-append e.clauses (all_clauses es), events-weight es)

pub all-weight : (s : Sheet) → length s.name + length s.symbol + names_weight s.events + clauses_weight (all_clauses s.events) ≡ weight s
unfolding weight
all-weight s = omega (arith, events-weight s.events)

-- ---- each is fine

events-clauses : (es : List Event) → every fine_event es ≡ true → every fine_clause (all_clauses es) ≡ true
unfolding all_clauses every
events-clauses [] h = refl
events-clauses (e ∷ es) h =
    let k = every_cons fine_event e es h in
    every_append fine_clause e.clauses (all_clauses es) (event_facts e k.0).clauses (events-clauses es k.1)

module _ (s : Sheet) (f : fine_sheet s ≡ true) where
  pub all-fine : every fine_clause (all_clauses s.events) ≡ true
  all-fine = events-clauses s.events (sheet_facts s f).events

  -- clause i of all
  pub clause-at : (d : Clause) (i : ℕ) → i < clause_count s.events → ClauseFacts (get_or (all_clauses s.events) i d)
  clause-at d i h =
      clause_facts (get_or (all_clauses s.events) i d)
      (every-below fine_clause d (all_clauses s.events) all-fine i (omega (arith, all-count s.events)))

  -- event i
  pub event_at_lem : (d : Event) (i : ℕ) → i < length s.events → EventFacts (get_or s.events i d)
  event_at_lem d i h = event_facts (get_or s.events i d) (every-below fine_event d s.events (sheet_facts s f).events i h)
