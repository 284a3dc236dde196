-- `book_store::copy_book` meets its contract. Assumes nothing.
use Rattle.std.specs.Prelude.{Err}
use native.Mathlib.Omega.{arith}
use mathlib.Core.Path.{◌≡◌}
use Rattle.book_store.proofs.Answers.{copy_refused, copy_done}
use Rattle.book_store.proofs.copy_book.Goals as goal

pub returns-in_err-check_book : goal.returns-in_err-check_book
returns-in_err-check_book c =
    let told : c.from_residual.result ≡ Err c.in_err-check_book.field-0.0 = grind arith in
    rw told (copy_refused c.check_book.ensures _ c.in_err-check_book.was)

pub returns : goal.returns
returns c =
    copy_done c.check_book.ensures _ c.in_ok-check_book.was c.requires.size_ok c.requires.to_len c.put_part.ensures
