-- The row of an event, and its name as it is lent. Assumes nothing.
use Rattle.le.specs.Le.{part}
use Rattle.table.proofs.Heads.{lent}
use Rattle.table_match.proofs.Sound.{Accepted, head-room, events-room, event_room}
use Rattle.row_names.proofs.Texts.{event_name-room, event_name-is}
use Rattle.row_names.proofs.event_text.Goals as goal

pub read_places-p-requires : goal.read_places-p-requires
read_places-p-requires c = head-room _ c.requires.t_value

pub event_at-e-requires : goal.event_at-e-requires
event_at-e-requires c =
    let accepted : Accepted c.args.t.now c.read_places-p.result = record { table = c.requires.t_value; places = c.read_places-p.ensures } in
    event_room accepted (lent c.args.t.now c.read_places-p.result.events c.read_places-p.result.clauses) c.requires.i_bound

pub slice_bounds-result-end : goal.slice_bounds-result-end
unfolding part
slice_bounds-result-end c =
    let accepted : Accepted c.args.t.now c.read_places-p.result = record { table = c.requires.t_value; places = c.read_places-p.ensures } in
    event_name-room accepted c.requires.i_bound c.event_at-e.ensures

pub returns : goal.returns
unfolding part
returns c =
    let accepted : Accepted c.args.t.now c.read_places-p.result = record { table = c.requires.t_value; places = c.read_places-p.ensures } in
    event_name-is accepted c.requires.i_bound c.event_at-e.ensures

pub slice_bounds-event_at-count : goal.slice_bounds-event_at-count
slice_bounds-event_at-count c =
    let accepted : Accepted c.args.t.now c.read_places-p.result = record { table = c.requires.t_value; places = c.read_places-p.ensures } in
    (events-room accepted).0

pub slice_bounds-event_at-start : goal.slice_bounds-event_at-start
slice_bounds-event_at-start c =
    let accepted : Accepted c.args.t.now c.read_places-p.result = record { table = c.requires.t_value; places = c.read_places-p.ensures } in
    (events-room accepted).0

pub slice_bounds-event_at-end : goal.slice_bounds-event_at-end
slice_bounds-event_at-end c =
    let accepted : Accepted c.args.t.now c.read_places-p.result = record { table = c.requires.t_value; places = c.read_places-p.ensures } in
    (events-room accepted).1
