-- What is said of an accepted bar, in numbers. Assumes nothing.
use mathlib.Core.Path.{◌∙◌}
use mir.Syntax.{w32}
use mir.Facts.{to_z-of_z}
use Rattle.position_book_answer.proofs.Values.{flag_is, feed_values}
use Rattle.position_book_answer.proofs.accepted_feed.Goals as goal

pub returns : goal.returns
returns c =
    feed_values c.args.said (to_z-of_z {w = w32} (record { sfits = c.pos_sign.type_inv }) ∙ c.pos_sign.ensures) (c.from.ensures ∙ flag_is c.args.said.changed)
    c.decision_code.ensures c.decision_event.ensures
