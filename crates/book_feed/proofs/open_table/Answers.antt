-- 8, 9. Assumes nothing.
use Rattle.std.specs.Prelude.{None, Some, Err}
use native.Mathlib.Omega.{arith}
use mathlib.Core.Path.{◌≡◌, sym, ◌∙◌, subst}
use Rattle.book.specs.declared.OpenError.TheVariants.{WrongLength}
use Rattle.book_header.specs.Size.{SizedAs}
use Rattle.book_feed.proofs.Refusals.{table_length_lem, table_not, table_is}
use Rattle.book_feed.proofs.open_table.Goals as goal

pub returns-in_err-c : goal.returns-in_err-c
returns-in_err-c c =
    let none : c.size_of.result ≡ None = grind arith in
    let told : c.from_residual.result ≡ Err WrongLength = grind arith in
    rw told (table_length_lem (subst (SizedAs _ _) none c.size_of.ensures).is)

pub returns-then-not-is_table : goal.returns-then-not-is_table
returns-then-not-is_table c =
    let some : c.size_of.result ≡ Some c.in_ok-c.c = grind arith in
    let size : SizedAs c.args.table.now c.args.b.now (Some c.in_ok-c.c) = subst (SizedAs _ _) some c.size_of.ensures in
    table_not size.is (sym c.is_table.ensures ∙ c.if-not-is_table.true)

pub returns : goal.returns
returns c =
    let some : c.size_of.result ≡ Some c.in_ok-c.c = grind arith in
    let size : SizedAs c.args.table.now c.args.b.now (Some c.in_ok-c.c) = subst (SizedAs _ _) some c.size_of.ensures in
    table_is size.is (sym c.is_table.ensures ∙ c.if-not-is_table.false) size.ok.1
