-- `book_feed_input::read_bar` meets its contract. Assumes nothing.
use mathlib.Core.Bool.{◌&&◌}
use mathlib.Core.Path.{◌≡◌}
use lib.Ieee.Scale.{finite}
use borrow.Author.Rules.{rules}
use Rattle.bar.specs.Bar.{id_ok, instant_ok, offset_ok}
use Rattle.book_feed_input.proofs.Bars.{outside, inside}
use Rattle.book_feed_input.proofs.read_bar.Goals as goal

pub returns-then-not-fits : goal.returns-then-not-fits
returns-then-not-fits c =
    let a = c.args in
    let told : c.if-within-3.fits ≡ (id_ok a.id && instant_ok a.instant && offset_ok a.offset && finite a.price) = search rules in
    outside a.id a.instant a.offset a.price told c.if-not-fits.true

pub returns : goal.returns
returns c =
    let a = c.args in
    let told : c.if-within-3.fits ≡ (id_ok a.id && instant_ok a.instant && offset_ok a.offset && finite a.price) = search rules in
    inside a.id a.instant a.offset a.price told c.if-not-fits.false c.ranges.id c.ranges.instant c.ranges.offset
