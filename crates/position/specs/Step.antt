-- The plain machine: what each accepted bar does, in seven steps. Steps 3 and 4, and steps 5 and 6, are one rule each, given the side. Assumes nothing.
use Rattle.std.specs.Prelude.{ℕ, ◌-◌, Bool, true, false, not, cond, ◌&&◌, ◌||◌, List, [], ◌∷◌, ◌++◌, ltb, eqb, ℤ, pos, negsuc, Float, Option, None, Some, slice_get}
use Rattle.std.specs.Int.Signed.{lt_z}
use Rattle.double.specs.declared.Yield.TheVariants.{Absent}
use Rattle.bar.specs.declared.Time.{Time}
use Rattle.double.specs.Double.{hold_yield, stop_hit}
use Rattle.double.specs.declared.Side.{Side}
use Rattle.stop.specs.Stop.{stop_double}
use Rattle.operate.specs.Operate.{HO, LO, LE, SO, SE}
use Rattle.bar.specs.Time.{seconds_between}
use Rattle.bar.specs.Bar.{day_at}
use Rattle.bar.specs.declared.Bar.{Bar}
use Rattle.sheet.specs.Sheet.{Event, Sheet}
use Rattle.event.specs.Signals.{Line}
use Rattle.event.specs.Match.{first_match}
use Rattle.position.specs.State.{State, fresh_state}
use Rattle.position.specs.declared.Pos.{Pos}
use Rattle.position.specs.declared.Pos.TheVariants.{Short, Flat, Long}
use Rattle.position.specs.declared.LastEvent.{LastEvent}
use Rattle.position.specs.declared.Choice.{Choice}
use Rattle.position.specs.declared.Head.{Head}
use Rattle.position.specs.declared.Description.{Description}
use Rattle.position.specs.declared.Description.TheVariants.{Event as ByEvent, Stop, Timeout}
use Rattle.position.specs.declared.Record.{Record}
use Rattle.position.specs.declared.Hold.{Hold}

-- ---- the two sides

abbrev pub other : Side → Side
other Side.Long = Side.Short
other Side.Short = Side.Long

abbrev pub open_of : Side → ℕ
open_of Side.Long = LO
open_of Side.Short = SO

abbrev pub close_of : Side → ℕ
close_of Side.Long = LE
close_of Side.Short = SE

abbrev pub pos_of : Side → Pos
pos_of Side.Long = Long
pos_of Side.Short = Short

-- whether a position is on the side
abbrev pub on : Side → Pos → Bool
on Side.Long Long = true
on Side.Long Flat = false
on Side.Long Short = false
on Side.Short Long = false
on Side.Short Flat = false
on Side.Short Short = true

abbrev pub last_open : Side → Head → Option Time
last_open Side.Long h = h.long
last_open Side.Short h = h.short

-- ---- the event that a bar's signals choose

-- "Choose an event: its operate and name; none gives HO." An event's name is had by its index.
abbrev pub choice_at : ℕ → Option Event → Choice
choice_at i None = record { operate = HO; event = 0; lots = 0 }
choice_at i (Some e) = record { operate = e.operate; event = i; lots = e.lots }

abbrev pub choice_of : List Event → Option ℕ → Choice
choice_of es None = record { operate = HO; event = 0; lots = 0 }
choice_of es (Some i) = choice_at i (slice_get es i)

unfoldable pub choose : Sheet → List Line → Choice
choose s ls = choice_of s.events (first_match s.events ls)

-- ---- the tests

-- "allowed if there is no last long open, or whole seconds between instants exceed interval"
abbrev pub allowed : Sheet → Bar → Option Time → Bool
allowed s b None = true
allowed s b (Some t) = lt_z (pos s.interval) (seconds_between t.instant.0 b.time.instant.0)

abbrev pub same_day : ℤ → ℤ → Bool
same_day (pos m) (pos n) = eqb m n
same_day (pos m) (negsuc n) = false
same_day (negsuc m) (pos n) = false
same_day (negsuc m) (negsuc n) = eqb m n

-- "no last short open, or its day differs from today's"; a day opens so many minutes before midnight: "21:00 as part of the next day"
abbrev pub different_day : ℕ → Bar → Option Time → Bool
different_day evening b None = true
different_day evening b (Some t) = not (same_day (day_at evening t) (day_at evening b.time))

-- "(t0, or no last short open, or its day differs from today's)"; "Only the same-day rule reads it"
abbrev pub may_close : Sheet → Bar → Option Time → Bool
may_close s b last = s.t0 || different_day s.evening b last

-- the stop as a double of basis points
abbrev pub stop_of : Sheet → Float
stop_of s = stop_double s.stop

-- "price/reference - 1 < -stop/10000 (stop)"; "1 - price/reference" for the short side
unfoldable pub stopped : Sheet → Side → Bar → LastEvent → Bool
stopped s side b r = stop_hit side (stop_of s) r.bar.price b.price

-- "id - reference id > timeout (timeout)"; an id below the reference's is past no timeout
unfoldable pub timed_out : Sheet → Bar → LastEvent → Bool
timed_out s b r = ltb s.timeout (b.id - r.bar.id)

-- ---- a bar on its way: the head so far, the lots of the position, and the records written

pub record Going : Type 0 where
  pub head : Head
  pub lots : ℕ
  pub wrote : List Record

-- "A record sets changed and keeps the pos after it.", with the lots that it opens or closes
unfoldable pub write : Bar → ℕ → Pos → Description → ℕ → Going → Going
write b operate p description lots g =
    let h = g.head in
    record {
      head = record { pos = p; changed = true; end = h.end; long = h.long; short = h.short; reference = h.reference };
      lots = lots;
      wrote = g.wrote ++ record { bar = b; operate = operate; pos = p; description = description; lots = lots } ∷ [];
    }

-- "last long open is now"
abbrev pub open_now : Side → Bar → Going → Going
open_now Side.Long b g =
    let h = g.head in
    record {
      head = record { pos = h.pos; changed = h.changed; end = h.end; long = Some b.time; short = h.short; reference = h.reference };
      lots = g.lots;
      wrote = g.wrote;
    }
open_now Side.Short b g =
    let h = g.head in
    record {
      head = record { pos = h.pos; changed = h.changed; end = h.end; long = h.long; short = Some b.time; reference = h.reference };
      lots = g.lots;
      wrote = g.wrote;
    }

-- ---- the steps

-- "2. .. LO or SO makes this bar and event the reference."
abbrev pub reference_for : Bar → Choice → Option LastEvent → Option LastEvent
reference_for b c r =
    cond (eqb c.operate LO || eqb c.operate SO) (Some (record { bar = b; operate = c.operate; event = c.event })) r

-- "1. Changed is no." "2. End is this bar's time." The lots are those open before the bar.
unfoldable pub arrive : Bar → Choice → ℕ → Head → Going
arrive b c lots h =
    record {
      head = record { pos = h.pos; changed = false; end = b.time; long = h.long; short = h.short; reference = reference_for b c h.reference };
      lots = lots;
      wrote = [];
    }

-- "If allowed and not Long: Long, last long open is now, record LO. Otherwise, if Short and (..): Flat, record SE."; "A closing record carries the
-- closed lots, an opening or reversing one the new lots."
unfoldable pub open_or_close : Sheet → Bar → Choice → Side → Going → Going
open_or_close s b c side g =
    let h = g.head in
    let opened = write b (open_of side) (pos_of side) (ByEvent c.event) c.lots (open_now side b g) in
    let closed = write b (close_of (other side)) Flat (ByEvent c.event) g.lots g in
    cond (allowed s b (last_open side h) && not (on side h.pos)) opened
    (cond (on (other side) h.pos && may_close s b (last_open (other side) h)) closed g)

-- "3. LO: .." "4. SO: step 3 with sides exchanged; the closing record is LE."
unfoldable pub opening : Sheet → Bar → Choice → Side → Going → Going
opening s b c side g = cond (eqb c.operate (open_of side)) (open_or_close s b c side g) g

-- "close on the first of operate LE (event name), .. (stop), .. (timeout). Flat, record LE."
abbrev pub close_on : Sheet → Bar → Choice → Side → Option LastEvent → Going → Going
close_on s b c side None g = g
close_on s b c side (Some r) g =
    cond (eqb c.operate (close_of side)) (write b (close_of side) Flat (ByEvent c.event) g.lots g)
    (cond (stopped s side b r) (write b (close_of side) Flat Stop g.lots g)
    (cond (timed_out s b r) (write b (close_of side) Flat Timeout g.lots g) g))

-- "5. If Long, a reference exists, and (t0, or no last long open, or its day differs): .." "6. If Short: the same .."
unfoldable pub closing : Sheet → Bar → Choice → Side → Going → Going
closing s b c side g =
    let h = g.head in
    cond (on side h.pos && may_close s b (last_open side h)) (close_on s b c side h.reference g) g

-- steps 1 to 6, where c was chosen
unfoldable pub going : Sheet → Bar → Choice → ℕ → Head → Going
going s b c lots h =
    closing s b c Side.Short (closing s b c Side.Long (opening s b c Side.Short (opening s b c Side.Long (arrive b c lots h))))

unfoldable pub step_head : Sheet → Bar → List Line → ℕ → Head → Going
step_head s b ls lots h = going s b (choose s ls) lots h

-- "7. If the previous hold's price > 0, its yield becomes (price/its price - 1) × 10000." Else it stays absent, as the last hold's always is.
unfoldable pub settle : Bar → Hold → Hold
settle b o = record { time = o.time; pos = o.pos; price = o.price; n1b = hold_yield o.price b.price; lots = o.lots }

unfoldable pub settle_last : Bar → List Hold → List Hold
settle_last b [] = []
settle_last b (o ∷ []) = settle b o ∷ []
settle_last b (o ∷ p ∷ os) = o ∷ settle_last b (p ∷ os)

-- "lots, 0 when Flat"
abbrev pub held_lots : Pos → ℕ → ℕ
held_lots Short lots = lots
held_lots Flat lots = 0
held_lots Long lots = lots

-- "Append a hold, yield absent."
unfoldable pub new_hold : Bar → Going → Hold
new_hold b g = record { time = b.time; pos = g.head.pos; price = b.price; n1b = Absent; lots = held_lots g.head.pos g.lots }

-- the open lots: those of the last hold, which the next bar finds
unfoldable pub open_lots : List Hold → ℕ
open_lots [] = 0
open_lots (o ∷ []) = o.lots
open_lots (o ∷ p ∷ os) = open_lots (p ∷ os)

-- one accepted bar with its signals
unfoldable pub step : Sheet → Bar → List Line → State → State
step s b ls st =
    let g = step_head s b ls (open_lots st.holds) st.head in
    record { head = g.head; records = st.records ++ g.wrote; holds = settle_last b st.holds ++ new_hold b g ∷ [] }

-- ---- what decided a bar: the record's event, stop or timeout; else the event chosen; else nothing

abbrev pub chosen_event : Option ℕ → Option Description
chosen_event None = None
chosen_event (Some i) = Some (ByEvent i)

unfoldable pub decided : Sheet → List Line → List Record → Option Description
decided s ls [] = chosen_event (first_match s.events ls)
decided s ls (r ∷ rs) = Some r.description

-- ---- a list of bars

-- a surviving bar with its signals
pub record Fed : Type 0 where
  pub bar : Bar
  pub signals : List Line

unfoldable pub plain_from : Sheet → State → List Fed → State
plain_from s st [] = st
plain_from s st (f ∷ fs) = plain_from s (step s f.bar f.signals st) fs

-- "the machine's state after these alone"
unfoldable pub plain : Sheet → List Fed → State
plain s fs = plain_from s fresh_state fs
