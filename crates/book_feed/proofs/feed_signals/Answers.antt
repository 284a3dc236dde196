-- The signals' refusals, or the bar with its signals. Assumes nothing.
use Rattle.std.specs.Prelude.{Err}
use native.Mathlib.Omega.{arith}
use mathlib.Core.Path.{◌≡◌, refl, subst}
use Rattle.event_signals.specs.Read.{SignalsAs}
use Rattle.book_feed.specs.declared.FeedError.TheVariants as FeedError
use Rattle.book_feed.proofs.Refusals.{signals-refused, signals-read}
use Rattle.book_feed.proofs.feed_signals.Goals as goal

pub returns-in_err-n : goal.returns-in_err-n
returns-in_err-n c =
    let a = c.args in
    let told : c.from_residual.result ≡ Err (FeedError.Signals c.in_err-n.field-0.0) = grind arith in
    rw told (signals-refused a.t.now a.b.now a.c a.bar a.s.now refl (subst (SignalsAs _ _ _ _) c.in_err-n.was c.read_signals.ensures).is)

pub accept_bar-requires : goal.accept_bar-requires
accept_bar-requires c = record { t_value = c.requires.t_value; book_passed = c.requires.book_passed; bar_passed = c.requires.bar_passed; lines_ok = (subst (SignalsAs _ _ _ _) c.in_ok-n.was c.read_signals.ensures).ok }

pub returns : goal.returns
returns c =
    let a = c.args in
    signals-read a.t.now a.b.now a.c a.bar a.s.now (subst (SignalsAs _ _ _ _) c.in_ok-n.was c.read_signals.ensures).is c.accept_bar.ensures
