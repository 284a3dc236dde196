-- 16, 17, or the feed of the line's numbers. Assumes nothing.
use Rattle.std.specs.Prelude.{Err}
use native.Mathlib.Omega.{arith}
use borrow.Author.Rules.{rules}
use mathlib.Core.Path.{◌≡◌, refl, sym, ap, ◌∙◌}
use Rattle.bar_line_read.specs.Read.{line_read_of}
use Rattle.book_feed.specs.declared.FeedError.TheVariants as FeedError
use Rattle.book_feed_line.proofs.Line.{line_refused, line_read}
use Rattle.book_feed_line.proofs.read_and_feed.Goals as goal

pub returns-in_err-n : goal.returns-in_err-n
returns-in_err-n c =
    let a = c.args in
    let told : c.from_residual.result ≡ Err (FeedError.Line c.in_err-n.field-0.0) = grind arith in
    rw told (line_refused a.t.now a.b.now a.c a.line.now a.s.now refl (ap line_read_of (sym c.in_err-n.was) ∙ c.read_line.ensures))

pub returns : goal.returns
returns c =
    let a = c.args in
    line_read a.t.now a.b.now a.c a.line.now a.s.now c.in_ok-n.n
    (ap line_read_of (sym c.in_ok-n.was) ∙ c.read_line.ensures)
    (search rules)
    (search rules)
    (search rules)
    c.feed_numbers.ensures
