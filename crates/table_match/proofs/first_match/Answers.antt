-- The first opening event, or else the first exit event. Assumes nothing.
use Rattle.table_match.proofs.Events.{match_opening, match_exit}
use Rattle.table_match.proofs.first_match.Goals as goal

pub returns-in-Some : goal.returns-in-Some
returns-in-Some c = match_opening c.find_event-opening.ensures c.in-Some.is

pub returns : goal.returns
returns c = match_exit c.find_event-opening.ensures c.in_default.is c.find_event.ensures
