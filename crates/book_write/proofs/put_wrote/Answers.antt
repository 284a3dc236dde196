-- Nothing, or the one record. Assumes nothing.
use Rattle.book_write.proofs.Written.{recorded_none, recorded_one}
use Rattle.book_write.proofs.put_wrote.Goals as goal

pub returns-in-None : goal.returns-in-None
returns-in-None c =
    let a = c.args in
    recorded_none a.b.now a.at c.in-None.is

pub returns-in-Some : goal.returns-in-Some
returns-in-Some c =
    let a = c.args in
    recorded_one a.b.now a.at c.in-Some.is c.put_record.ensures
