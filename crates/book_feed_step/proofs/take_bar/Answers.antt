-- The match, and what is done by it. Assumes nothing.
use Rattle.book_feed_step.proofs.take_bar.Goals as goal

pub take_matched-requires : goal.take_matched-requires
take_matched-requires c = record { t_value = c.requires.t_value; book_passed = c.requires.book_passed; b_bound = c.requires.b_bound; bar_passed = c.requires.bar_passed; below = c.first_match-m.ensures.ok }

pub returns : goal.returns
returns c = c.take_matched.ensures _ c.first_match-m.ensures.is
