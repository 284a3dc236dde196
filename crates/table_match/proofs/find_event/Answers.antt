-- `table_match::find_event` meets its contract: `Finding`, no event up to here is one, is the invariant. Assumes nothing.
use mathlib.Core.Path.{◌∙◌, sym, ap}
use Prim.Native.Nat.{◌<◌}
use native.Mathlib.Omega.{arith}
use Rattle.table.specs.Layout.{counts_in}
use Rattle.table_match.proofs.Sound.{Accepted, head-room, events-room, event_room, event_in_lem, event_next}
use Rattle.table_match.proofs.Events.{finding_first, finding_last, finding_hit, finding_more}
use Rattle.table_match.proofs.find_event.Goals as goal

pub read_counts-count-requires : goal.read_counts-count-requires
read_counts-count-requires c = head-room _ c.requires.t_value

pub read_places-p-requires : goal.read_places-p-requires
read_places-p-requires c = head-room _ c.requires.t_value

pub section-rows-requires : goal.section-rows-requires
section-rows-requires c =
    let accepted : Accepted c.args.t.now c.read_places-p.result = record { table = c.requires.t_value; places = c.read_places-p.ensures } in
    events-room accepted

pub loop-i-init : goal.loop-i-init
loop-i-init c = finding_first _ _ _ _ _ _

pub event_at-e-requires : goal.event_at-e-requires
event_at-e-requires c =
    let accepted : Accepted c.args.t.now c.read_places-p.result = record { table = c.requires.t_value; places = c.read_places-p.ensures } in
    event_room accepted c.section-rows.ensures (omega (arith, c.loop-i-test.true, ap (λ k. k.events) c.read_counts-count.ensures))

pub is_hit-requires : goal.is_hit-requires
is_hit-requires c =
    let accepted : Accepted c.args.t.now c.read_places-p.result = record { table = c.requires.t_value; places = c.read_places-p.ensures } in
    let below : c.loop-i.i < (counts_in c.args.t.now).events = omega (arith, c.loop-i-test.true, ap (λ k. k.events) c.read_counts-count.ensures) in
    record { t_value = c.requires.t_value; event_in = event_in_lem accepted c.section-rows.ensures below c.event_at-e.ensures; kind_bound = c.requires.kind_bound; lines_ok = c.requires.lines_ok }

pub returns-then-is_hit : goal.returns-then-is_hit
returns-then-is_hit c =
    let below : c.loop-i.i < (counts_in c.args.t.now).events = omega (arith, c.loop-i-test.true, ap (λ k. k.events) c.read_counts-count.ensures) in
    let accepted : Accepted c.args.t.now c.read_places-p.result = record { table = c.requires.t_value; places = c.read_places-p.ensures } in
    finding_hit c.loop-i.invariant below (event_next accepted c.section-rows.ensures below c.event_at-e.ensures) (sym c.if-is_hit.true ∙ c.is_hit.ensures)

pub loop-i-preserved : goal.loop-i-preserved
loop-i-preserved c =
    let below : c.loop-i.i < (counts_in c.args.t.now).events = omega (arith, c.loop-i-test.true, ap (λ k. k.events) c.read_counts-count.ensures) in
    let accepted : Accepted c.args.t.now c.read_places-p.result = record { table = c.requires.t_value; places = c.read_places-p.ensures } in
    finding_more c.loop-i.invariant below (event_next accepted c.section-rows.ensures below c.event_at-e.ensures) (sym c.if-is_hit.false ∙ c.is_hit.ensures)

pub returns : goal.returns
returns c = finding_last c.loop-i.invariant (omega (arith, c.loop-i-test.false, ap (λ k. k.events) c.read_counts-count.ensures))
