-- `book_store::restore` meets its contract. Assumes nothing.
use Rattle.std.specs.Prelude.{None, Some, Err}
use native.Mathlib.Omega.{arith}
use mathlib.Core.Path.{◌≡◌, sym}
use Rattle.book.specs.declared.OpenError.TheVariants.{WrongLength}
use Rattle.book_store.proofs.Answers.{restore_wrong, restore_uneven, image-size, restore_copies}
use Rattle.book_store.proofs.restore.Goals as goal

pub returns-in_err-c : goal.returns-in_err-c
returns-in_err-c c =
    let none : c.size_of.result ≡ None = grind arith in
    let told : c.from_residual.result ≡ Err WrongLength = grind arith in
    rw told (restore_wrong c.size_of.ensures _ none)

pub returns-then-image-b : goal.returns-then-image-b
returns-then-image-b c =
    let some : c.size_of.result ≡ Some c.in_ok-c.c = grind arith in
    restore_uneven c.size_of.ensures _ some c.if-image-b.true

pub copy_book-requires : goal.copy_book-requires
copy_book-requires c =
    let even = c.if-image-b.false in
    let some : c.size_of.result ≡ Some c.in_ok-c.c = grind arith in
    record { size_ok = image-size c.size_of.ensures _ some even; to_len = sym even }

pub returns : goal.returns
returns c =
    let some : c.size_of.result ≡ Some c.in_ok-c.c = grind arith in
    restore_copies c.size_of.ensures _ some c.if-image-b.false c.copy_book.ensures
