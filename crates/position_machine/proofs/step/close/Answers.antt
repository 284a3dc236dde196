-- The side may not close, or nothing closes it, or it closes. Assumes nothing.
use Rattle.std.specs.Prelude.{ℕ, None, Some}
use mathlib.Core.Path.{sym, ap, ◌∙◌}
use Rattle.position.specs.Step.{write}
use Rattle.position.specs.declared.Pos.TheVariants.{Flat}
use Rattle.position_machine.specs.Update.{of_settings}
use Rattle.position_machine.specs.Rules.{silent}
use Rattle.position_machine.proofs.Rules.{stays, leaves}
use Rattle.position_machine.proofs.step.close.Goals as goal

pub returns-then-not-can_close : goal.returns-then-not-can_close
returns-then-not-can_close c =
    let a = c.args in
    stays (of_settings a.k) a.bar a.c a.side a.lots a.h (sym c.can_close.ensures ∙ c.if-not-can_close.true)

pub returns-in-None : goal.returns-in-None
returns-in-None c =
    let a = c.args in
    leaves (of_settings a.k) a.bar a.c a.side a.lots a.h None (sym c.can_close.ensures ∙ c.if-not-can_close.false) (sym c.in-None.ensures)

pub returns-in-Some : goal.returns-in-Some
returns-in-Some c =
    let a = c.args in
    let d = c.in-Some.description in
    c.create_operate_record.ensures a.lots
    ∙ ap (λ (n : ℕ). write a.bar n Flat d a.lots (silent a.h a.lots)) c.close_operate.ensures
    ∙ leaves (of_settings a.k) a.bar a.c a.side a.lots a.h (Some d) (sym c.can_close.ensures ∙ c.if-not-can_close.false) (sym c.in-Some.ensures)
