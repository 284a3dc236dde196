-- The feed, the header after it and the line that is printed. Assumes nothing.
use native.Mathlib.Omega.{arith}
use Rattle.run_feed_one.proofs.One.{next-long, fed-printed}
use borrow.Author.Rules.{rules}
use Rattle.run_feed_one.proofs.feed_one.Goals as goal
use Rattle.run_feed_one.proofs.feed_one.Goals.{in-Ok, in-Err}
use Rattle.text.specs.Answer.{number}
use Rattle.book_feed.specs.Feed.{feed_of}
use mathlib.Core.List.{[]}
use mathlib.Core.Path.{◌≡◌, ◌∙◌, sym, ap}

pub returns : goal.returns
returns c =
    let told : c.match-r.number ≡ number (feed_of [] c.feed_bar-r.result) =
    elim c.match-r.branch [
      | in-Ok w ↦ w.number-is ∙ sym (ap (λ q. number (feed_of [] q)) w.in-Ok.is)
      | in-Err w ↦ w.number-is ∙ w.number-number.ensures ∙ sym (ap (λ q. number (feed_of [] q)) w.in-Err.is)
    ] in
    fed-printed c.args.table.now c.args.b c.args.signals.now (search rules) (search rules) (search rules) _ c.feed_bar-r.ensures
    _ _ _ (record { sfits = c.pos_sign.type_inv }) told c.read_head-h.ensures c.pos_sign.ensures
    c.args.out.now c.args.at c.requires.feed_room_in_bounds c.put_feed-n.ensures

pub read_head-h-requires : goal.read_head-h-requires
read_head-h-requires c =
    omega (arith, next-long c.args.table.now c.args.b c.args.signals.now (search rules) (search rules) (search rules) _ c.feed_bar-r.ensures c.requires.booked c.requires.t)

pub overflow_add-at : goal.overflow_add-at
overflow_add-at c = omega (arith, c.requires.feed_room_in_bounds)

pub overflow_add-result : goal.overflow_add-result
overflow_add-result c = omega (arith, (returns c).line.short, c.requires.feed_room_in_bounds)
