-- Zeros, with the number. Assumes nothing.
use mathlib.Core.Path.{refl}
use Rattle.double.proofs.Constants.{zero_is}
use Rattle.position_book_answer.proofs.refused_pair.Goals as goal

pub returns : goal.returns
returns c = rw zero_is refl
