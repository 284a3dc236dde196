-- One store is a patch of one number. Assumes nothing.
use Rattle.sheet_numbers.proofs.Stores.{one_more}
use Rattle.sheet_numbers.proofs.more_clauses.Goals as goal

pub returns : goal.returns
returns c = one_more _ _ c.requires.0
