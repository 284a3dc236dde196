-- The plain machine with the stop test that it had when stops were whole basis points. It serves to state what did not change. Assumes nothing.
use Rattle.std.specs.Prelude.{ℕ, Bool, cond, ◌&&◌, List, [], ◌∷◌, ◌++◌, eqb, Option, None, Some}
use Rattle.double.specs.Double.{whole, stop_hit}
use Rattle.double.specs.declared.Side.{Side}
use Rattle.bar.specs.declared.Bar.{Bar}
use Rattle.sheet.specs.Sheet.{Sheet}
use Rattle.event.specs.Signals.{Line}
use Rattle.position.specs.State.{State, fresh_state}
use Rattle.position.specs.Step.{Going, Fed, close_of, on, last_open, choose, may_close, timed_out, write, arrive, opening, settle_last, new_hold, open_lots}
use Rattle.position.specs.declared.Pos.TheVariants.{Flat}
use Rattle.position.specs.declared.Choice.{Choice}
use Rattle.position.specs.declared.LastEvent.{LastEvent}
use Rattle.position.specs.declared.Head.{Head}
use Rattle.position.specs.declared.Description.TheVariants.{Event as ByEvent, Stop, Timeout}

-- whether a bar has passed the stop, against the reference's
abbrev pub Test : Type 0
Test = Side → Bar → LastEvent → Bool

-- "price/reference - 1 < -stop/10000 (stop)", of a stop of w basis points, which is a double as it is
abbrev pub whole_test : ℕ → Test
whole_test w side b r = stop_hit side (whole w) r.bar.price b.price

-- ---- steps 5 and 6 by a test; all else as it stands in position/specs/Step

abbrev pub close_on_by : Test → Sheet → Bar → Choice → Side → Option LastEvent → Going → Going
close_on_by hit s b c side None g = g
close_on_by hit s b c side (Some r) g =
    cond (eqb c.operate (close_of side)) (write b (close_of side) Flat (ByEvent c.event) g.lots g)
    (cond (hit side b r) (write b (close_of side) Flat Stop g.lots g)
    (cond (timed_out s b r) (write b (close_of side) Flat Timeout g.lots g) g))

abbrev pub closing_by : Test → Sheet → Bar → Choice → Side → Going → Going
closing_by hit s b c side g =
    let h = g.head in
    cond (on side h.pos && may_close s b (last_open side h)) (close_on_by hit s b c side h.reference g) g

abbrev pub going_by : Test → Sheet → Bar → Choice → ℕ → Head → Going
going_by hit s b c lots h =
    closing_by hit s b c Side.Short (closing_by hit s b c Side.Long (opening s b c Side.Short (opening s b c Side.Long (arrive b c lots h))))

abbrev pub step_by : Test → Sheet → Bar → List Line → State → State
step_by hit s b ls st =
    let g = going_by hit s b (choose s ls) (open_lots st.holds) st.head in
    record { head = g.head; records = st.records ++ g.wrote; holds = settle_last b st.holds ++ new_hold b g ∷ [] }

unfoldable pub plain_from_by : Test → Sheet → State → List Fed → State
plain_from_by hit s st [] = st
plain_from_by hit s st (f ∷ fs) = plain_from_by hit s (step_by hit s f.bar f.signals st) fs

-- the state after these bars where the stop was w basis points
abbrev pub plain_before : ℕ → Sheet → List Fed → State
plain_before w s fs = plain_from_by (whole_test w) s fresh_state fs
