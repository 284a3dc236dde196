-- `book_entry_check::zeros` meets its contract. Assumes nothing.
use Rattle.std.proofs.Common.{rules}
use Rattle.std.proofs.iter.runs.Made.{chains}
use Rattle.book_entry_check.proofs.ZeroBytes.{are_zeros}
use Rattle.book_entry_check.proofs.zeros.Goals as goal

pub returns : goal.returns
returns c =
    let a = c.args in
    are_zeros c.all.result a.b.now a.at a.n c.requires (search (rules, chains))
