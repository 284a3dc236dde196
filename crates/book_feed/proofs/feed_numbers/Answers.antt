-- 11, or the bar and its signals. Assumes nothing.
use Rattle.std.specs.Prelude.{None, Some, Err}
use native.Mathlib.Omega.{arith}
use mathlib.Core.Path.{◌≡◌, refl, subst}
use Rattle.book_feed_input.specs.Bars.{BarAs}
use Rattle.book_feed.specs.declared.FeedError.TheVariants.{BadBar}
use Rattle.book_feed.proofs.Refusals.{told_bar, bar-refused, bar-read}
use Rattle.book_feed.proofs.feed_numbers.Goals as goal

pub returns-in_err-bar : goal.returns-in_err-bar
returns-in_err-bar c =
    let a = c.args in
    let f = c.ranges in
    let read : BarAs a.id a.instant a.offset a.price c.read_bar.result = told_bar f.id f.instant f.offset c.read_bar.ensures in
    let none : c.read_bar.result ≡ None = grind arith in
    let told : c.from_residual.result ≡ Err BadBar = grind arith in
    rw told (bar-refused a.t.now a.b.now a.c _ refl (subst (BarAs _ _ _ _) none read).is)

pub feed_signals-requires : goal.feed_signals-requires
feed_signals-requires c =
    let a = c.args in
    let f = c.ranges in
    let read : BarAs a.id a.instant a.offset a.price c.read_bar.result = told_bar f.id f.instant f.offset c.read_bar.ensures in
    let some : c.read_bar.result ≡ Some c.in_ok-bar.bar = grind arith in
    let ok = (subst (BarAs _ _ _ _) some read).ok in
    record { t_value = c.requires.t_value; book_passed = c.requires.book_passed; bar_passed = record { time = ok.0; price = ok.1 } }

pub returns : goal.returns
returns c =
    let a = c.args in
    let f = c.ranges in
    let read : BarAs a.id a.instant a.offset a.price c.read_bar.result = told_bar f.id f.instant f.offset c.read_bar.ensures in
    let some : c.read_bar.result ≡ Some c.in_ok-bar.bar = grind arith in
    bar-read a.t.now a.b.now a.c _ (subst (BarAs _ _ _ _) some read).is c.feed_signals.ensures
