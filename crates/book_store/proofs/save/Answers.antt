-- `book_store::save` meets its contract. Assumes nothing.
use Rattle.std.specs.Prelude.{None, Some, Err}
use native.Mathlib.Omega.{arith}
use mathlib.Core.Path.{◌≡◌}
use Rattle.book.specs.declared.OpenError.TheVariants.{WrongLength}
use Rattle.book_store.proofs.Answers.{book-size, save_wrong, save_uneven, save_copies}
use Rattle.book_store.proofs.save.Goals as goal

pub returns-in_err-c : goal.returns-in_err-c
returns-in_err-c c =
    let none : c.size_of.result ≡ None = grind arith in
    let told : c.from_residual.result ≡ Err WrongLength = grind arith in
    rw told (save_wrong c.size_of.ensures _ none)

pub returns-then-image-b : goal.returns-then-image-b
returns-then-image-b c =
    let some : c.size_of.result ≡ Some c.in_ok-c.c = grind arith in
    save_uneven c.size_of.ensures _ some c.if-image-b.true

pub copy_book-requires : goal.copy_book-requires
copy_book-requires c =
    let some : c.size_of.result ≡ Some c.in_ok-c.c = grind arith in
    record { size_ok = book-size c.size_of.ensures some; to_len = c.if-image-b.false }

pub returns : goal.returns
returns c =
    let some : c.size_of.result ≡ Some c.in_ok-c.c = grind arith in
    save_copies c.size_of.ensures _ some c.if-image-b.false c.copy_book.ensures
