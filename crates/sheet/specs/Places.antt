-- What the code keeps of a sheet that it read: places in its text and numbers; and the sheet that these mean. Assumes nothing.
use Rattle.sheet.specs.declared.SheetError.{SheetError}
use Rattle.sheet.specs.declared.SheetError.TheVariants as SheetError
use Rattle.std.specs.Prelude.{ℕ, zero, suc, ◌+◌, ◌*◌, ◌<◌, ◌≤◌, ◌≡◌, true, cond, List, [], ◌∷◌, ltb, eqb, length, get_or, take, drop, Result, Ok, Err}
use Rattle.std.proofs.Math.Seq.{slice}
use Rattle.list.specs.Numbered.{rows}
use Rattle.le.specs.Le.{part}
use Rattle.text.specs.Answer.{Answer, Refused, Got}
use Rattle.text.specs.Text.{split, pipe}
use Rattle.signal.specs.Read.{SignalOk, signal_in, signal_refusal}
use Rattle.signal.specs.declared.SignalAt.{SignalAt}
use Rattle.sheet.specs.Sheet.{kind_of, exit_in, lots_in, Clause, Event, Sheet, event_limit, clause_limit, name_limit, interval_limit, timeout_limit, stop_limit, t0_limit, evening_limit, lots_ok}
use Rattle.sheet.specs.Read.{read_sheet}
use Rattle.sheet.specs.declared.SheetAt.{SheetAt}

-- the fields of s in from..to
abbrev pub fields_of : List ℕ → ℕ → ℕ → List (List ℕ)
fields_of s from to = split pipe (slice from to s)

-- the last field, behind the separator at r, where the line goes on there
abbrev pub behind : List ℕ → ℕ → ℕ → List (List ℕ)
behind s r to = cond (ltb r to) (slice (r + 1) to s ∷ []) []

-- ---- clauses: nine numbers each

abbrev pub clause_numbers : ℕ
clause_numbers = 9

-- the kind, where the signal starts, then the places of its parts counted from there, and its score
abbrev pub signal_at : List ℕ → SignalAt
signal_at l =
    record { k1 = get_or l 2 0; k2 = get_or l 3 0; k3 = get_or l 4 0; v1 = get_or l 5 0; v2 = get_or l 6 0; v3 = get_or l 7 0; score = get_or l 8 0 }

-- the clause whose numbers stand first in l
unfoldable pub clause_at : List ℕ → List ℕ → Clause
clause_at s l = record { kind = kind_of (get_or l 0 0); signal = signal_in (drop (get_or l 1 0) s) (signal_at l) }

pub record ClauseOk (s l : List ℕ) : Type 0 where
  pub kind : get_or l 0 0 ≤ 2
  pub within : get_or l 1 0 ≤ length s
  pub signal : SignalOk (drop (get_or l 1 0) s) (signal_at l)

-- ---- events: six numbers each

abbrev pub event_numbers : ℕ
event_numbers = 6

-- the kind and the lots, the operate, where the name starts, its length, the first clause, how many clauses
unfoldable pub event_at : List ℕ → List Clause → List ℕ → Event
event_at s cs l =
    record {
      exit = exit_in (get_or l 0 0);
      operate = get_or l 1 0;
      name = part s (get_or l 2 0) (get_or l 3 0);
      lots = lots_in (get_or l 0 0);
      clauses = take (get_or l 5 0) (drop (get_or l 4 0) cs);
    }

-- number j of event i
abbrev pub event_number : List ℕ → ℕ → ℕ → ℕ
event_number es i j = get_or (drop (event_numbers * i) es) j 0

-- how many clauses the first n events have
unfoldable pub clauses_before : List ℕ → ℕ → ℕ
clauses_before es zero = 0
clauses_before es (suc n) = clauses_before es n + event_number es n 5

-- its numbers l, where `before` clauses belong to earlier events
pub record EventOk (s : List ℕ) (before : ℕ) (l : List ℕ) : Type 0 where
  pub lots : lots_ok (lots_in (get_or l 0 0)) ≡ true
  pub single : exit_in (get_or l 0 0) ≡ true → lots_in (get_or l 0 0) ≡ 1
  pub operate : get_or l 1 0 ≤ 6
  pub name : get_or l 2 0 + get_or l 3 0 ≤ length s
  pub brief : get_or l 3 0 ≤ name_limit
  pub clauses : get_or l 4 0 ≡ before

-- ---- the sheet

abbrev pub clauses_at : List ℕ → List ℕ → SheetAt → List Clause
clauses_at s cs a = rows (clause_at s) clause_numbers a.clauses cs

-- es and cs hold the numbers of the events and of the clauses
unfoldable pub sheet_at : List ℕ → List ℕ → List ℕ → SheetAt → Sheet
sheet_at s es cs a =
    record {
      name = slice 2 a.name s;
      symbol = slice (a.name + 1) a.symbol s;
      interval = a.interval;
      timeout = a.timeout;
      stop = a.stop;
      t0 = eqb a.t0 1;
      evening = a.evening;
      events = rows (event_at s (clauses_at s cs a)) event_numbers a.events es;
    }

-- the settings are in range
pub record SettingsOk (a : SheetAt) : Type 0 where
  pub interval : a.interval ≤ interval_limit
  pub timeout : a.timeout ≤ timeout_limit
  pub stop : a.stop ≤ stop_limit
  pub t0 : a.t0 ≤ t0_limit
  pub evening : a.evening ≤ evening_limit

-- places within the text, counts and settings in range, clauses that follow each other, openings before exits
pub record SheetOk (s es cs : List ℕ) (a : SheetAt) : Type 0 where
  pub name : 2 ≤ a.name
  pub symbol : a.name < a.symbol
  pub within : a.symbol < length s
  pub brief-name : a.name ≤ 2 + name_limit
  pub brief-symbol : a.symbol ≤ a.name + 1 + name_limit
  pub settings : SettingsOk a
  pub few : a.events ≤ event_limit
  pub short : a.clauses ≤ clause_limit
  pub events : (i : ℕ) → i < a.events → EventOk s (clauses_before es i) (drop (event_numbers * i) es)
  pub all : clauses_before es a.events ≡ a.clauses
  pub clauses : (i : ℕ) → i < a.clauses → ClauseOk s (drop (clause_numbers * i) cs)
  pub rise : (i : ℕ) → suc i < a.events → exit_in (event_number es i 0) ≡ true → exit_in (event_number es (suc i) 0) ≡ true

-- ---- the answers

-- the number and the sheet of each answer
abbrev pub sheet_refusal : SheetError → ℕ
sheet_refusal SheetError.PastLimit = 7
sheet_refusal SheetError.NotUtf8 = 1
sheet_refusal SheetError.Malformed = 2
sheet_refusal SheetError.BadNumber = 3
sheet_refusal SheetError.UnknownOperate = 4
sheet_refusal (SheetError.Signal e) = signal_refusal e
sheet_refusal SheetError.BadLots = 18

abbrev pub read_of : List ℕ → List ℕ → List ℕ → Result SheetAt SheetError → Answer Sheet
read_of s es cs (Ok a) = Got (sheet_at s es cs a)
read_of s es cs (Err e) = Refused (sheet_refusal e)

abbrev pub ReadOk : List ℕ → List ℕ → List ℕ → Result SheetAt SheetError → Type 0
ReadOk s es cs (Ok a) = SheetOk s es cs a
ReadOk s es cs (Err e) = Unit {0}

-- r is the answer x, with es and cs as they are at exit
pub record SheetIs (s es cs : List ℕ) (x : Answer Sheet) (r : Result SheetAt SheetError) : Type 0 where
  pub is : read_of s es cs r ≡ x
  pub ok : ReadOk s es cs r

-- r is what s says
abbrev pub SheetAs : List ℕ → List ℕ → List ℕ → Result SheetAt SheetError → Type 0
SheetAs s es cs r = SheetIs s es cs (read_sheet s) r
