-- 8, 9, 10, or the bar's numbers and its signals. Assumes nothing.
use Rattle.std.specs.Prelude.{Ok, Err}
use native.Mathlib.Omega.{arith}
use mathlib.Core.Path.{◌≡◌, refl, subst}
use Rattle.text.specs.Answer.{Got}
use Rattle.position.specs.Feed.{Input}
use Rattle.book.specs.Calls.{feed_do}
use Rattle.book_feed.specs.declared.FeedError.TheVariants as FeedError
use Rattle.book_feed.specs.Steps.{BookOpenedAs}
use Rattle.book_feed.proofs.Refusals.{told_numbers, feed_unopened, feed_reached}
use Rattle.book_feed.proofs.feed_bar.Goals as goal

pub returns-in_err-c : goal.returns-in_err-c
unfolding feed_do
returns-in_err-c c =
    let a = c.args in
    let told : c.from_residual.result ≡ Err (FeedError.Open c.in_err-c.field-0.0) = grind arith in
    rw told (feed_unopened a.table.now a.b.now _ refl refl (subst (BookOpenedAs _ _) c.in_err-c.was c.open_book.ensures))

pub feed_numbers-requires : goal.feed_numbers-requires
feed_numbers-requires c =
    let opened : BookOpenedAs c.args.table.now c.args.b.now (Ok c.in_ok-c.c) = subst (BookOpenedAs _ _) c.in_ok-c.was c.open_book.ensures in
    record { t_value = opened.ok.0; book_passed = opened.ok.1 }

pub returns : goal.returns
unfolding feed_do
returns c =
    let opened : BookOpenedAs c.args.table.now c.args.b.now (Ok c.in_ok-c.c) = subst (BookOpenedAs _ _) c.in_ok-c.was c.open_book.ensures in
    let a = c.args in
    let f = c.ranges in
    let i : Input = record { id = a.id; instant = a.instant; offset = a.offset; price = a.price; signals = a.signals.now } in
    feed_reached a.table.now a.b.now (Got i) opened
    (told_numbers a.table.now a.b.now _ i f.id f.instant f.offset c.feed_numbers.ensures)
