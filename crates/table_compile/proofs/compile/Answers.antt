-- `table_compile::compile` meets its contract: the sheet is read, then the table is written. Assumes nothing.
use borrow.Author.Rules.{rules}
use Rattle.std.proofs.lemmas.Result.{err_from_is_err_and}
use Rattle.table_compile.proofs.Compiled.{wrong_length, refused, done}
use Rattle.table_compile.proofs.Steps.{sheet-done}
use Rattle.table_compile.proofs.compile.Goals as goal

pub returns-then-table-ne-TABLE_LENGTH : goal.returns-then-table-ne-TABLE_LENGTH
returns-then-table-ne-TABLE_LENGTH c = wrong_length c.if-table-ne-TABLE_LENGTH.true

pub returns-in_err-a : goal.returns-in_err-a
returns-in_err-a c =
    let p = err_from_is_err_and c.from_residual.result c.from_residual.ensures.1 in
    rw (p.1, p.2) (refused c.if-table-ne-TABLE_LENGTH.false c.in_err-a.ensures)

pub write-requires : goal.write-requires
write-requires c =
    record { table_len = search rules; sheet_done = sheet-done c.in_ok-a.ensures (search rules) (search rules) }

pub returns : goal.returns
returns c = done c.if-table-ne-TABLE_LENGTH.false c.in_ok-a.ensures c.write.ensures
