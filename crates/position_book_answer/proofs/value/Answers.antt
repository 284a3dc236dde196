-- A yield that is absent is 0. Assumes nothing.
use Rattle.double.proofs.Constants.{zero_is}
use Rattle.position_book_answer.proofs.value.Goals as goal

pub returns-in-Absent : goal.returns-in-Absent
returns-in-Absent c = rw (zero_is, c.in-Absent.is)
