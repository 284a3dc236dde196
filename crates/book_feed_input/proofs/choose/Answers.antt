-- The operate of the event that matched, and its number. Assumes nothing.
use native.Mathlib.Omega.{arith}
use Prim.Native.Nat.{◌<◌}
use mathlib.Core.Path.{sym, ap}
use Rattle.table.specs.Layout.{counts_in, parts_in}
use Rattle.table.specs.Table.{sheet_of}
use Rattle.table.proofs.Facts.{table_facts}
use Rattle.table.proofs.Heads.{headed, lent}
use Rattle.position.specs.Step.{choice_of}
use Rattle.table_match.proofs.Sound.{Accepted, head-room, events-room, event_room}
use Rattle.book_feed_input.proofs.Choices.{below, operate-most, choice_is}
use Rattle.book_feed_input.proofs.choose.Goals as goal

pub returns-in_default : goal.returns-in_default
returns-in_default c = sym (ap (λ m. choice_of (sheet_of (parts_in c.args.t.now)).events (m)) c.in_default.is)

pub read_places-p-requires : goal.read_places-p-requires
read_places-p-requires c = head-room _ c.requires.t_value

pub slice_bounds-event_at-count : goal.slice_bounds-event_at-count
slice_bounds-event_at-count c =
    let accepted : Accepted c.args.t.now c.read_places-p.result = record { table = c.requires.t_value; places = c.read_places-p.ensures } in
    (events-room accepted).0

pub slice_bounds-event_at-start : goal.slice_bounds-event_at-start
slice_bounds-event_at-start c =
    let accepted : Accepted c.args.t.now c.read_places-p.result = record { table = c.requires.t_value; places = c.read_places-p.ensures } in
    (events-room accepted).0

pub slice_bounds-event_at-end : goal.slice_bounds-event_at-end
slice_bounds-event_at-end c =
    let accepted : Accepted c.args.t.now c.read_places-p.result = record { table = c.requires.t_value; places = c.read_places-p.ensures } in
    (events-room accepted).1

pub event_at-e-requires : goal.event_at-e-requires
event_at-e-requires c =
    let accepted : Accepted c.args.t.now c.read_places-p.result = record { table = c.requires.t_value; places = c.read_places-p.ensures } in
    let inside : c.in-Some.i < (counts_in c.args.t.now).events = below c.requires.below c.in-Some.is in
    event_room accepted (lent _ _ _) inside

pub overflow_cast-result : goal.overflow_cast-result
overflow_cast-result c =
    let accepted : Accepted c.args.t.now c.read_places-p.result = record { table = c.requires.t_value; places = c.read_places-p.ensures } in
    let inside : c.in-Some.i < (counts_in c.args.t.now).events = below c.requires.below c.in-Some.is in
    let h = operate-most accepted (lent _ _ _) inside c.event_at-e.ensures in
    record { fits = omega arith }

pub overflow_cast-result-2 : goal.overflow_cast-result-2
overflow_cast-result-2 c =
    let accepted : Accepted c.args.t.now c.read_places-p.result = record { table = c.requires.t_value; places = c.read_places-p.ensures } in
    let inside : c.in-Some.i < (counts_in c.args.t.now).events = below c.requires.below c.in-Some.is in
    let few = (headed _ (table_facts _ accepted.table).0).events-few in
    record { fits = omega (arith, inside) }

pub returns : goal.returns
returns c =
    let accepted : Accepted c.args.t.now c.read_places-p.result = record { table = c.requires.t_value; places = c.read_places-p.ensures } in
    let inside : c.in-Some.i < (counts_in c.args.t.now).events = below c.requires.below c.in-Some.is in
    choice_is accepted (lent _ _ _) inside c.event_at-e.ensures c.in-Some.is
