-- `table_check_events::events_ok` meets its contract: `Walking`, where the next name and the next clauses must start, is the invariant. Assumes nothing.
use borrow.Author.Tests.{ne_eqb}
use mathlib.Core.Path.{sym, ◌∙◌}
use Rattle.table_check_events.proofs.Events.{walking_first, walking_off, walking_more, walking_short, walking_last}
use Rattle.table_check_events.proofs.events_ok.Goals as goal

pub loop-i-init : goal.loop-i-init
loop-i-init c = walking_first _ _ _ _ c.requires.n_in_bounds c.requires.names_value

pub returns-then-not-event_follows : goal.returns-then-not-event_follows
returns-then-not-event_follows c =
    walking_off c.loop-i.invariant c.loop-i-test.true c.event_at-e.ensures (sym c.event_follows.ensures ∙ c.if-not-event_follows.true)

pub loop-i-preserved : goal.loop-i-preserved
loop-i-preserved c =
    walking_more c.loop-i.invariant c.loop-i-test.true c.event_at-e.ensures (sym c.event_follows.ensures ∙ c.if-not-event_follows.false)

pub returns-then-f-names : goal.returns-then-f-names
returns-then-f-names c = walking_last c.loop-i.invariant c.loop-i-test.false c.if-f-names.true

pub returns-else-f-names : goal.returns-else-f-names
returns-else-f-names c = ne_eqb _ _ c.if-f-names.false ∙ walking_short c.loop-i.invariant c.loop-i-test.false c.if-f-names.false
