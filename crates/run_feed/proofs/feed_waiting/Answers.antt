-- What waits is fed, or nothing waits. Assumes nothing.
use mathlib.Core.Path.{refl, sym, subst}
use lib.ListN.{take}
use lib.Seq.{length-take-le}
use Rattle.run_feed.specs.Steps.{FedWaiting}
use Rattle.run_feed.proofs.feed_waiting.Goals as goal

pub slice_bounds-feed_one-end : goal.slice_bounds-feed_one-end
slice_bounds-feed_one-end c =
    sym (length-take-le c.args.p.signals c.args.signals.now c.requires.signals_in_bounds)

pub returns-in-Some : goal.returns-in-Some
returns-in-Some c =
    subst (λ w. FedWaiting c.args.table.now c.args.book.now c.feed_one.new.book w (take c.args.p.signals c.args.signals.now) c.args.out.now c.feed_one.new.out c.args.p.at c.feed_one.result) (sym c.in-Some.is) c.feed_one.ensures

pub returns-in-None : goal.returns-in-None
returns-in-None c =
    subst (λ w. FedWaiting c.args.table.now c.args.book.now c.args.book.now w (take c.args.p.signals c.args.signals.now) c.args.out.now c.args.out.now c.args.p.at c.args.p.at) (sym c.in-None.is) (refl, refl, refl)
