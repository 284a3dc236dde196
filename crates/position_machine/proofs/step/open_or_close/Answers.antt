-- The side opens, else the other closes, else nothing is done. Assumes nothing.
use mathlib.Core.Path.{sym, ◌∙◌}
use Rattle.position_machine.specs.Update.{of_settings}
use Rattle.position_machine.proofs.Rules.{enters, turns, keeps}
use Rattle.position_machine.proofs.step.open_or_close.Goals as goal

pub returns-then-can_open : goal.returns-then-can_open
returns-then-can_open c =
    let a = c.args in
    c.create_operate_record.ensures a.lots
    ∙ enters (of_settings a.k) a.bar a.c a.side a.lots a.h c.open_operate.ensures c.side_pos.ensures (c.open_now-opened.ensures a.lots)
    (sym c.can_open.ensures ∙ c.if-can_open.true)

pub returns-then-can_close : goal.returns-then-can_close
returns-then-can_close c =
    let a = c.args in
    c.create_operate_record-then-can_close.ensures a.lots
    ∙ turns (of_settings a.k) a.bar a.c a.side a.lots a.h c.other-against.ensures c.close_operate.ensures (sym c.can_open.ensures ∙ c.if-can_open.false)
    (sym c.can_close.ensures ∙ c.if-can_close.true)

pub returns-else-can_close : goal.returns-else-can_close
returns-else-can_close c =
    let a = c.args in
    keeps (of_settings a.k) a.bar a.c a.side a.lots a.h c.other-against.ensures (sym c.can_open.ensures ∙ c.if-can_open.false)
    (sym c.can_close.ensures ∙ c.if-can_close.false)
