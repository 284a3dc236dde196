-- The text's refusals, no room, or what the signal says. Assumes nothing.
use Rattle.std.specs.Prelude.{Ok}
use mathlib.Core.Path.{◌≡◌, ◌∙◌, refl, ap, subst}
use Rattle.text.specs.Answer.{Refused}
use Rattle.signal.specs.Signal.{signal_alone}
use Rattle.signal.specs.Read.{AloneAs}
use Rattle.position_book_answer_alone.proofs.Laws.{signal_case, signal-refused, signal-short, signal-done}
use Rattle.position_book_answer_alone.proofs.signal_answer.Goals as goal

pub returns-then-out-text : goal.returns-then-out-text
returns-then-out-text c =
    let read : AloneAs c.args.text.now (Ok c.in-Ok.a) = subst (AloneAs c.args.text.now) c.in-Ok.is c.signal_alone.ensures in
    let a = c.args in
    signal_case a.text.now a.out.now (signal-short a.text.now a.out.now read.is c.if-out-text.true) c.refused-then-out-text.ensures refl

pub put_signal-requires : goal.put_signal-requires
put_signal-requires c =
    let read : AloneAs c.args.text.now (Ok c.in-Ok.a) = subst (AloneAs c.args.text.now) c.in-Ok.is c.signal_alone.ensures in
    record { signal_ok = read.ok; text_in_bounds = c.if-out-text.false }

pub returns-in-Err : goal.returns-in-Err
returns-in-Err c =
    let a = c.args in
    let e : Refused c.signal_number.result ≡ signal_alone a.text.now = ap Refused c.signal_number.ensures ∙ c.in-Err.ensures.is in
    signal_case a.text.now a.out.now (signal-refused a.text.now a.out.now e) c.refused.ensures refl

pub returns-else-out-text : goal.returns-else-out-text
returns-else-out-text c =
    let read : AloneAs c.args.text.now (Ok c.in-Ok.a) = subst (AloneAs c.args.text.now) c.in-Ok.is c.signal_alone.ensures in
    let a = c.args in
    let p = c.put_signal.ensures in
    signal_case a.text.now a.out.now (signal-done a.text.now a.out.now read.is c.if-out-text.false) p.0 p.1
