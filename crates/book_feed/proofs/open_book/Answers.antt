-- 8, 9, 10. Assumes nothing.
use Rattle.std.specs.Prelude.{Ok, Err}
use native.Mathlib.Omega.{arith}
use mathlib.Core.Path.{◌≡◌, refl, sym, ◌∙◌, subst}
use Rattle.book_feed.specs.Steps.{TableOpenedAs}
use Rattle.book_feed.proofs.Refusals.{book-refused, book-not, book-is}
use Rattle.book_feed.proofs.open_book.Goals as goal

pub returns-in_err-c : goal.returns-in_err-c
returns-in_err-c c =
    let told : c.from_residual.result ≡ Err c.in_err-c.field-0.0 = grind arith in
    rw told (book-refused refl tt (subst (TableOpenedAs _ _) c.in_err-c.was c.open_table.ensures))

pub header_ok-requires : goal.header_ok-requires
header_ok-requires c =
    let table : TableOpenedAs c.args.table.now c.args.b.now (Ok c.in_ok-c.c) = subst (TableOpenedAs _ _) c.in_ok-c.was c.open_table.ensures in
    table.ok.1

pub returns-then-not-header_ok : goal.returns-then-not-header_ok
returns-then-not-header_ok c =
    book-not (subst (TableOpenedAs _ _) c.in_ok-c.was c.open_table.ensures) (sym c.header_ok.ensures ∙ c.if-not-header_ok.true)

pub returns : goal.returns
returns c =
    book-is (subst (TableOpenedAs _ _) c.in_ok-c.was c.open_table.ensures) (sym c.header_ok.ensures ∙ c.if-not-header_ok.false)
