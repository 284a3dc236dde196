-- 8, 9, 10, or the line and its signals. Assumes nothing.
use Rattle.std.specs.Prelude.{Ok, Err}
use native.Mathlib.Omega.{arith}
use mathlib.Core.Path.{◌≡◌, refl, subst}
use Rattle.position.specs.Feed.{line_input}
use Rattle.book.specs.Calls.{feed_line_do}
use Rattle.book_feed.specs.declared.FeedError.TheVariants as FeedError
use Rattle.book_feed.specs.Steps.{BookOpenedAs}
use Rattle.book_feed.proofs.Refusals.{feed_unopened, feed_reached}
use Rattle.book_feed_line.specs.Steps.{line_do}
use Rattle.book_feed_line.proofs.feed_line.Goals as goal

pub returns-in_err-c : goal.returns-in_err-c
unfolding feed_line_do
returns-in_err-c c =
    let a = c.args in
    let told : c.from_residual.result ≡ Err (FeedError.Open c.in_err-c.field-0.0) = grind arith in
    rw told (feed_unopened a.table.now a.b.now _ refl refl (subst (BookOpenedAs _ _) c.in_err-c.was c.open_book.ensures))

pub read_and_feed-requires : goal.read_and_feed-requires
read_and_feed-requires c =
    let opened : BookOpenedAs c.args.table.now c.args.b.now (Ok c.in_ok-c.c) = subst (BookOpenedAs _ _) c.in_ok-c.was c.open_book.ensures in
    record { t_value = opened.ok.0; book_passed = opened.ok.1 }

pub returns : goal.returns
unfolding feed_line_do line_do
returns c =
    let opened : BookOpenedAs c.args.table.now c.args.b.now (Ok c.in_ok-c.c) = subst (BookOpenedAs _ _) c.in_ok-c.was c.open_book.ensures in
    let a = c.args in
    feed_reached a.table.now a.b.now (line_input a.line.now a.signals.now) opened c.read_and_feed.ensures
