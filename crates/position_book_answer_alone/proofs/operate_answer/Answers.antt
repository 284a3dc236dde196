-- The code, or the number of the refusal. Assumes nothing.
use mathlib.Core.Path.{◌∙◌, sym, ap}
use Rattle.operate.specs.Read.{alone_of}
use Rattle.position_book_answer_alone.specs.Calls.{operate_answer}
use Rattle.position_book_answer_alone.proofs.operate_answer.Goals as goal

pub returns-in-Ok : goal.returns-in-Ok
returns-in-Ok c = rw c.code.ensures (ap operate_answer (sym (ap alone_of c.in-Ok.is) ∙ c.operate_alone.ensures))

pub returns-in-Err : goal.returns-in-Err
returns-in-Err c = rw c.operate_number.ensures (ap operate_answer (sym (ap alone_of c.in-Err.is) ∙ c.operate_alone.ensures))
