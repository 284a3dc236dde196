-- Each line of a sheet leaves the sheet fine, and spends no more than its own bytes. Assumes nothing.
use Prim.Native.Nat.{ℕ, ◌+◌, ◌≤◌}
use native.Mathlib.Omega.{arith}
use mathlib.Core.Bool.{Bool, true, false, not, ◌&&◌, ◌||◌}
use mathlib.Core.List.{List, [], ◌∷◌, ◌++◌}
use mathlib.Core.Path.{◌≡◌, ◌∙◌, refl, ap}
use borrow.Author.Tests.{ltb-true}
use lib.Dec.{ltb, eqb}
use lib.ListN.{length, get_or, drop, length-append}
use Rattle.text.specs.Conditions.{every}
use Rattle.text.specs.Literal.{bytes}
use Rattle.text.specs.Text.{same, split, pipe}
use Rattle.text.proofs.Refusals.{Gives, refuses, gives, then_with}
use Rattle.utf8.specs.Alone.{text_limit}
use Rattle.signal.specs.Signal.{Signal}
use Rattle.sheet.specs.Sheet.{Kind, All, Any, Not, Clause, Event, Sheet, clause_count, event_limit, clause_limit, interval_limit, timeout_limit, stop_limit, t0_limit, evening_limit, lots_ok}
use Rattle.sheet.specs.Read.{name, position_line, with_events, any_exit, event_fields, event_line, clause_line, add_clause, later_line}
use Rattle.table_words.specs.Words.{clean}
use Rattle.table_limits.specs.Fine.{operate_limit, fine_event, events_weight, clauses_weight, weight}
use Rattle.text.proofs.Every.{every_one, every_append}
use Rattle.text.proofs.Joined.{total_next, split-length}
use Rattle.table_limits.proofs.Lines.{Line, field_at}
use Rattle.table_limits.proofs.Given.{must_test, either_gives}
use Rattle.table_limits.proofs.Facts.{event_sure, SheetFacts}
use Rattle.table_limits.proofs.Fields.{Name, name_gives, unsigned_gives, stop_gives, minutes_give, lots_give, operate_gives, Says, signal_gives}
use Rattle.table_limits.proofs.Events.{count-append, weight-append, add-length, add-count, add-weight, add-fine}

-- a fine sheet that leaves n bytes of a text
pub record Fine (n : ℕ) (s : Sheet) : Type 0 where
  pub facts : SheetFacts s
  pub room : weight s + n ≤ text_limit

-- the sheet with other events
with_events_lem : {n : ℕ} {s : Sheet} → Fine n s → (m : ℕ) (es : List Event) → length es ≤ event_limit → clause_count es ≤ clause_limit
    → every fine_event es ≡ true → events_weight es + m ≤ events_weight s.events + n → Fine m (with_events s es)
unfolding weight
with_events_lem k m es few short each light =
    let f = k.facts in
    record {
      facts =
          record {
            short_name = f.short_name;
            short_symbol = f.short_symbol;
            clean_name = f.clean_name;
            clean_symbol = f.clean_symbol;
            interval = f.interval;
            timeout = f.timeout;
            stop = f.stop;
            evening = f.evening;
            few = few;
            clauses = short;
            events = each;
            light = omega (arith, k.room);
          };
      room = omega (arith, k.room);
    }

-- ---- each line

module _ (n : ℕ) (p : List ℕ) (l : Line p) where
  abbrev fields : List (List ℕ)
  fields = split pipe p

  -- fields 1 and 2 lie in the line
  two_fields : length (get_or fields 1 []) + length (get_or fields 2 []) ≤ length p
  two_fields = omega (arith, split-length pipe p, total_next fields 0, total_next fields 1, total_next fields 2)

  name-clean : (i : ℕ) {name : List ℕ} → Name (get_or fields i []) name → clean name ≡ true
  name-clean i k = rw k.is (field_at l i)

  -- the first line
  module _ (h : length p + n ≤ text_limit) where
    begun : (name symbol : List ℕ) (interval timeout stop : ℕ) (t0 : Bool) (evening : ℕ) → Name (get_or fields 1 []) name → Name (get_or fields 2 []) symbol
        → interval ≤ interval_limit → timeout ≤ timeout_limit → stop ≤ stop_limit → evening ≤ evening_limit
        → Fine n (record { name = name; symbol = symbol; interval = interval; timeout = timeout; stop = stop; t0 = t0; evening = evening; events = [] })
    unfolding weight events_weight clause_count every
    begun name symbol interval timeout stop t0 evening a b c d e f =
        let size : length name + length symbol + 0 + n ≤ text_limit = omega (arith, ap length a.is, ap length b.is, two_fields) in
        record {
          facts =
              record {
                short_name = a.short;
                short_symbol = b.short;
                clean_name = name-clean 1 a;
                clean_symbol = name-clean 2 b;
                interval = c;
                timeout = d;
                stop = e;
                evening = f;
                few = omega arith;
                clauses = omega arith;
                events = refl;
                light = omega arith;
              };
          room = size;
        }

    pub position_gives : Gives (Fine n) (position_line fields)
    unfolding position_line
    position_gives =
        then_with (must_test 2 (same (get_or fields 0 []) (bytes "P") && (eqb (length fields) 7 || eqb (length fields) 8)) tt)
        (λ _ _. then_with (name_gives (get_or fields 1 []))
        (λ name a. then_with (name_gives (get_or fields 2 []))
        (λ symbol b. then_with (unsigned_gives interval_limit (get_or fields 3 []))
        (λ interval c. then_with (unsigned_gives timeout_limit (get_or fields 4 []))
        (λ timeout d. then_with (stop_gives stop_limit (get_or fields 5 []))
        (λ stop e. then_with (unsigned_gives t0_limit (get_or fields 6 []))
        (λ t0 _. then_with (minutes_give (drop 7 fields))
        (λ evening f. gives (begun name symbol interval timeout stop (eqb t0 1) evening a b c d e f)))))))))

  -- a later line
  module _ (s : Sheet) (k : Fine (length p + n) s) where
    event_fine : (exit : Bool) (operate : ℕ) (name : List ℕ) (lots : ℕ) → operate ≤ operate_limit → Name (get_or fields 2 []) name → lots_ok lots ≡ true
        → ltb (length s.events) event_limit ≡ true
        → Fine n (with_events s (s.events ++ record { exit = exit; operate = operate; name = name; lots = lots; clauses = [] } ∷ []))
    unfolding events_weight clauses_weight clause_count every
    event_fine exit operate name lots o a b few =
        let e : Event = record { exit = exit; operate = operate; name = name; lots = lots; clauses = [] } in
        let one = event_sure e (record { operate = o; short_name = a.short; clean_name = name-clean 2 a; lots = b; clauses = refl }) in
        with_events_lem k n (s.events ++ e ∷ [])
        (omega (arith, length-append s.events (e ∷ []), ltb-true (length s.events) event_limit few))
        (omega (arith, count-append s.events (e ∷ []), k.facts.clauses))
        (every_append fine_event s.events (e ∷ []) k.facts.events (every_one fine_event e ∙ one))
        (omega (arith, weight-append s.events (e ∷ []), ap length a.is, two_fields))

    event_gives : (exit : Bool) → Gives (Fine n) (event_line exit s fields)
    unfolding event_line
    event_gives exit =
        then_with (must_test 2 (event_fields exit (length fields) && (exit || not (any_exit s.events))) tt)
        (λ _ _. then_with (operate_gives (get_or fields 1 []))
        (λ operate o. then_with (name_gives (get_or fields 2 []))
        (λ name a. then_with (lots_give (drop 3 fields))
        (λ lots b. then_with (must_test 7 (ltb (length s.events) event_limit) tt)
        (λ _ few. gives (event_fine exit operate name lots o a b few))))))

    clause-fine : (kind : Kind) (signal : Signal) → Says kind (length (get_or fields 1 [])) signal → ltb (clause_count s.events) clause_limit ≡ true
        → Fine n (with_events s (add_clause (record { kind = kind; signal = signal }) s.events))
    clause-fine kind signal a few =
        let c : Clause = record { kind = kind; signal = signal } in
        with_events_lem k n (add_clause c s.events)
        (omega (arith, add-length c s.events, k.facts.few))
        (omega (arith, add-count c s.events, ltb-true (clause_count s.events) clause_limit few))
        (add-fine c s.events a.fine k.facts.events)
        (omega (arith, add-weight c s.events, a.light, two_fields))

    clause_gives : (kind : Kind) → Gives (Fine n) (clause_line kind s fields)
    unfolding clause_line
    clause_gives kind =
        then_with (must_test 2 (eqb (length fields) 2 && ltb 0 (length s.events)) tt)
        (λ _ _. then_with (signal_gives kind (get_or fields 1 []) (field_at l 1))
        (λ signal a. then_with (must_test 7 (ltb (clause_count s.events) clause_limit) tt)
        (λ _ few. gives (clause-fine kind signal a few))))

    pub later_gives : Gives (Fine n) (later_line s fields)
    unfolding later_line
    later_gives =
        let tag = get_or fields 0 [] in
        either_gives (same tag (bytes "O")) (event_gives false)
        (either_gives (same tag (bytes "X")) (event_gives true)
        (either_gives (same tag (bytes "A")) (clause_gives All)
        (either_gives (same tag (bytes "Y")) (clause_gives Any)
        (either_gives (same tag (bytes "N")) (clause_gives Not) refuses))))
