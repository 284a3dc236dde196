-- The text's own refusals first, then what it says. Assumes nothing.
use mathlib.Core.Path.{◌∙◌}
use Rattle.std.proofs.lemmas.Result.{err_from_is_err_and}
use Rattle.text.proofs.Answers.{refused_then, got_then}
use Rattle.signal.specs.Signal.{signal_of, signal_alone}
use Rattle.signal.proofs.signal_alone.Goals as goal

pub returns-in_err-check_alone : goal.returns-in_err-check_alone
unfolding signal_alone
returns-in_err-check_alone c =
    let p = err_from_is_err_and c.from_residual.result c.from_residual.ensures.1 in
    rw (p.1, p.2) (record { is = refused_then _ c.in_err-check_alone.ensures; ok = tt })

pub returns-in_err-from_str : goal.returns-in_err-from_str
unfolding signal_alone
returns-in_err-from_str c =
    let p = err_from_is_err_and c.from_residual-in_err-from_str.result c.from_residual-in_err-from_str.ensures.1 in
    let e = c.in_err-from_str.ensures in
    rw (p.1, p.2) (record { is = e.is ∙ got_then (λ _. signal_of c.args.s.now) c.in_ok-check_alone.ensures; ok = tt })

pub returns : goal.returns
unfolding signal_alone
returns c =
    let e = c.in_ok-from_str.ensures in
    record { is = e.is ∙ got_then (λ _. signal_of c.args.s.now) c.in_ok-check_alone.ensures; ok = e.ok }
