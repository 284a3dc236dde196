-- `table_write_rows::put_events` meets its contract: `Eventing`, the rows that stand and their names' length, is the invariant. Assumes nothing.
use native.Mathlib.Omega.{arith}
use Rattle.table_write_rows.proofs.Rows.{rowing_last, eventing_first, eventing_room, eventing_near, eventing_more}
use Rattle.table_write_rows.proofs.put_events.Goals as goal

pub loop-i-init : goal.loop-i-init
loop-i-init c = eventing_first c.requires.events_fit c.args.dst.now c.args.at c.requires.n_in_bounds

pub event_row-e-requires : goal.event_row-e-requires
event_row-e-requires c =
    let x = c.loop-i.invariant in
    let h = c.loop-i-test.true in
    record { event_numbers_in_bounds = eventing_room x h; at_bound = eventing_near x h }

pub overflow_add-names : goal.overflow_add-names
overflow_add-names c =
    omega (arith, eventing_near c.loop-i.invariant c.loop-i-test.true)

pub loop-i-preserved : goal.loop-i-preserved
loop-i-preserved c =
    eventing_more c.loop-i.invariant c.loop-i-test.true c.event_row-e.ensures c.put_event-p.ensures

pub returns : goal.returns
returns c = rowing_last c.loop-i.invariant.rows c.loop-i-test.false
