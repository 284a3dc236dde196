-- A line by what it says. Assumes nothing.
use mathlib.Core.List.{List}
use mathlib.Core.Path.{◌≡◌, ◌∙◌, ap, subst}
use Prim.Native.Nat.{ℕ}
use Rattle.std.specs.Prelude.{Result, Ok}
use Rattle.std.proofs.lemmas.Result.{err_from_is_err_and}
use Rattle.run_input.specs.Lines.{LineAs}
use Rattle.run_input.specs.declared.InputLine.{InputLine}
use Rattle.run_input.specs.declared.InputLine.TheVariants as InputLine
use Rattle.run_input.specs.declared.InputError.{InputError}
use Rattle.run_feed.proofs.Lines.{waiting_ready, signal_ready, took_bar, took_added, took_refused}
use Rattle.run_feed.proofs.take_line.Goals as goal

told : {l : List ℕ} {r q : Result InputLine InputError} → r ≡ q → LineAs l r → LineAs l q
told {l} e a = subst (LineAs l) e a

pub returns-in_err-b : goal.returns-in_err-b
returns-in_err-b c =
    let p = err_from_is_err_and c.from_residual.result c.from_residual.ensures.1 in
    rw (p.1, p.2)
    (took_refused c.requires.running c.requires.first_at c.requires.to_in_bounds _ (told c.in_err-b.was c.read_line.ensures))

pub feed_waiting-at-requires : goal.feed_waiting-at-requires
feed_waiting-at-requires c =
    let all = waiting_ready c.requires.running in
    record { booked = all.0; waiting_ok = all.1.0; signals_in_bounds = all.1.1.0; feed_room_in_bounds = all.1.1.1 }

pub add_signal-requires : goal.add_signal-requires
add_signal-requires c =
    let line = told (c.in_ok-b.was ∙ ap Ok c.in-Signal.is) c.read_line.ensures in
    let all = signal_ready c.requires.running c.requires.first_at c.requires.to_in_bounds line in
    record { from_bound = all.0; to_bound = all.1 }

pub returns-in-Bar : goal.returns-in-Bar
returns-in-Bar c =
    let line = told (c.in_ok-b.was ∙ ap Ok c.in-Bar.is) c.read_line.ensures in
    took_bar c.requires.running c.requires.first_at c.requires.to_in_bounds c.in-Bar.b line _ _ _ c.feed_waiting-at.ensures c.feed_waiting-at.auto.out

pub returns-in-Signal : goal.returns-in-Signal
returns-in-Signal c =
    let line = told (c.in_ok-b.was ∙ ap Ok c.in-Signal.is) c.read_line.ensures in
    took_added c.requires.running c.requires.first_at c.requires.to_in_bounds line c.add_signal.new.signals c.add_signal.result c.add_signal.ensures
