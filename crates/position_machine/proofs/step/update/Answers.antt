-- An LO or SO opens its side, else both sides close. Assumes nothing.
use mathlib.Core.Path.{◌∙◌}
use borrow.Author.Tests.{eq-eqb, ne_eqb}
use Rattle.double.specs.declared.Side.TheVariants as Side
use Rattle.position_machine.specs.Update.{of_settings}
use Rattle.position_machine.proofs.Rules.{first-still, first-wrote, times_still, opens, closes}
use Rattle.position_machine.proofs.step.update.Goals as goal

pub open_or_close-requires : goal.open_or_close-requires
open_or_close-requires c =
    let a = c.args in
    times_still a.bar a.c a.lots a.h (c.arrive-arrived.ensures a.lots) c.requires

pub returns-then-c-eq-LO : goal.returns-then-c-eq-LO
returns-then-c-eq-LO c =
    let a = c.args in
    c.open_or_close.ensures ∙ opens a.bar a.c a.lots a.h (c.arrive-arrived.ensures a.lots) (of_settings a.k) Side.Long (eq-eqb _ _ c.if-c-eq-LO.true)

pub open_or_close-requires-then-c-eq-SO : goal.open_or_close-requires-then-c-eq-SO
open_or_close-requires-then-c-eq-SO c =
    let a = c.args in
    times_still a.bar a.c a.lots a.h (c.arrive-arrived.ensures a.lots) c.requires

pub returns-then-c-eq-SO : goal.returns-then-c-eq-SO
returns-then-c-eq-SO c =
    let a = c.args in
    c.open_or_close-then-c-eq-SO.ensures ∙ opens a.bar a.c a.lots a.h (c.arrive-arrived.ensures a.lots) (of_settings a.k) Side.Short (eq-eqb _ _ c.if-c-eq-SO.true)

pub close-u-requires : goal.close-u-requires
close-u-requires c =
    let a = c.args in
    times_still a.bar a.c a.lots a.h (c.arrive-arrived.ensures a.lots) c.requires

pub close-requires : goal.close-requires
close-requires c =
    let a = c.args in
    times_still a.bar a.c a.lots a.h (c.arrive-arrived.ensures a.lots) c.requires

pub returns-in-None : goal.returns-in-None
returns-in-None c =
    let a = c.args in
    let s = of_settings a.k in
    c.close.ensures
    ∙ first-still s a.bar a.c a.lots c.arrive-arrived.result c.close-u.result c.close-u.ensures c.in-None.is
    ∙ closes a.bar a.c a.lots a.h (c.arrive-arrived.ensures a.lots) s (ne_eqb _ _ c.if-c-eq-LO.false) (ne_eqb _ _ c.if-c-eq-SO.false)

pub returns-in-Some : goal.returns-in-Some
returns-in-Some c =
    let a = c.args in
    let s = of_settings a.k in
    first-wrote s a.bar a.c a.lots c.arrive-arrived.result c.close-u.result _ c.close-u.ensures c.in-Some.is
    ∙ closes a.bar a.c a.lots a.h (c.arrive-arrived.ensures a.lots) s (ne_eqb _ _ c.if-c-eq-LO.false) (ne_eqb _ _ c.if-c-eq-SO.false)
