-- Reading a position sheet. "Compiling checks 8, text length, 1, then each line: 2, fields left to right, count." Here all but 8. Assumes nothing.
use Rattle.std.specs.Prelude.{ℕ, Bool, true, false, not, cond, ◌&&◌, ◌||◌, List, [], ◌∷◌, ◌++◌, leb, ltb, eqb, length, get_or, drop, Option, None, Some}
use Rattle.text.specs.Answer.{Answer, Refused, Got, ◌>>=◌, must, given}
use Rattle.text.specs.Literal.{bytes}
use Rattle.text.specs.Text.{same, split, each_line, LF}
use Rattle.text.specs.Number.{at_most, digits_to, unsigned}
use Rattle.text.specs.Conditions.{any_of}
use Rattle.utf8.specs.Alone.{text}
use Rattle.stop.specs.Stop.{hundredths_of}
use Rattle.operate.specs.Operate.{operate_of}
use Rattle.signal.specs.Signal.{signal_of}
use Rattle.sheet.specs.Sheet.{Kind, All, Any, Not, Clause, Event, Sheet, clause_count, event_limit, clause_limit, name_limit, interval_limit, timeout_limit, stop_limit, t0_limit, evening_limit, lots_ok}

-- "at most .. 256 bytes a name or symbol" (7)
abbrev pub name : List ℕ → Answer (List ℕ)
name s = must 7 (leb (length s) name_limit) >>= λ _. Got s

-- "A P line may carry a seventh value, 0 to 1,439 minutes ..; without it the value is 0": of the fields behind t0
abbrev pub minutes_in : List (List ℕ) → Option ℕ
minutes_in [] = Some 0
minutes_in (field ∷ _) = at_most evening_limit (digits_to 10 field)

-- "first `P|name|symbol|interval|timeout|stop|t0`", or with a seventh value; "The stop field may now have one or two decimals after a point"
unfoldable pub position_line : List (List ℕ) → Answer Sheet
position_line f = do
  _ ← must 2 (same (get_or f 0 []) (bytes "P") && (eqb (length f) 7 || eqb (length f) 8))
  n ← name (get_or f 1 [])
  s ← name (get_or f 2 [])
  interval ← unsigned interval_limit (get_or f 3 [])
  timeout ← unsigned timeout_limit (get_or f 4 [])
  stop ← hundredths_of stop_limit (get_or f 5 [])
  t0 ← unsigned t0_limit (get_or f 6 [])
  evening ← given 3 (minutes_in (drop 7 f))
  Got (record { name = n; symbol = s; interval = interval; timeout = timeout; stop = stop; t0 = eqb t0 1; evening = evening; events = [] })

-- the sheet with other events
abbrev pub with_events : Sheet → List Event → Sheet
with_events s es =
    record { name = s.name; symbol = s.symbol; interval = s.interval; timeout = s.timeout; stop = s.stop; t0 = s.t0; evening = s.evening; events = es }

abbrev pub any_exit : List Event → Bool
any_exit es = any_of (λ e. e.exit) es

-- lots as they are said: 3 where they are no number; "18 when lots lie outside 1 to 1,000"
abbrev pub lots_of : List ℕ → Answer ℕ
lots_of field = given 3 (digits_to 10 field) >>= λ n. must 18 (lots_ok n) >>= λ _. Got n

-- "An O line may carry lots as a third value; missing means 1": of the fields behind the name
abbrev pub lots_behind : List (List ℕ) → Answer ℕ
lots_behind [] = Got 1
lots_behind (field ∷ _) = lots_of field

-- three fields; four on an O line that carries lots
abbrev pub event_fields : Bool → ℕ → Bool
event_fields exit n = eqb n 3 || not exit && eqb n 4

-- "then events, `O|operate|name` (opening), all before `X|operate|name` (exit)"; at most 32
unfoldable pub event_line : Bool → Sheet → List (List ℕ) → Answer Sheet
event_line exit s f = do
  _ ← must 2 (event_fields exit (length f) && (exit || not (any_exit s.events)))
  operate ← operate_of (get_or f 1 [])
  n ← name (get_or f 2 [])
  lots ← lots_behind (drop 3 f)
  _ ← must 7 (ltb (length s.events) event_limit)
  Got (with_events s (s.events ++ record { exit = exit; operate = operate; name = n; lots = lots; clauses = [] } ∷ []))

-- the events with one clause more behind the last one's
unfoldable pub add_clause : Clause → List Event → List Event
add_clause c [] = []
add_clause c (e ∷ []) = record { exit = e.exit; operate = e.operate; name = e.name; lots = e.lots; clauses = e.clauses ++ c ∷ [] } ∷ []
add_clause c (e ∷ d ∷ es) = e ∷ add_clause c (d ∷ es)

-- "After an event come its clauses in any order: `A|signal` (all), `Y|signal` (any), `N|signal` (not)."; at most 256
unfoldable pub clause_line : Kind → Sheet → List (List ℕ) → Answer Sheet
clause_line kind s f = do
  _ ← must 2 (eqb (length f) 2 && ltb 0 (length s.events))
  signal ← signal_of (get_or f 1 [])
  _ ← must 7 (ltb (clause_count s.events) clause_limit)
  Got (with_events s (add_clause (record { kind = kind; signal = signal }) s.events))

-- a later line, by its tag; "wrong tag" (2)
unfoldable pub later_line : Sheet → List (List ℕ) → Answer Sheet
later_line s f =
    let tag = get_or f 0 [] in
    cond (same tag (bytes "O")) (event_line false s f)
    (cond (same tag (bytes "X")) (event_line true s f)
    (cond (same tag (bytes "A")) (clause_line All s f)
    (cond (same tag (bytes "Y")) (clause_line Any s f)
    (cond (same tag (bytes "N")) (clause_line Not s f) (Refused 2)))))

-- the first line, and each later one
abbrev pub sheet_line : Option Sheet → List (List ℕ) → Answer (Option Sheet)
sheet_line None f = position_line f >>= λ s. Got (Some s)
sheet_line (Some s) f = later_line s f >>= λ t. Got (Some t)

-- "text length, 1, then each line"; "an empty sheet gives 2"
unfoldable pub read_sheet : List ℕ → Answer Sheet
read_sheet s = do
  _ ← text s
  sheet ← each_line sheet_line None (split LF s)
  given 2 sheet
