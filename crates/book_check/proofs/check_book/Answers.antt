-- `book_check::check_book` meets its contract. Assumes nothing.
use Rattle.book_check.proofs.Full.{not_table, head_in, not-book, passed}
use Rattle.table.specs.Table.{is_table}
use mathlib.Core.Bool.{true}
use mathlib.Core.Path.{◌≡◌, sym, ◌∙◌}
use Rattle.book_check.proofs.check_book.Goals as goal

pub returns-then-not-is_table : goal.returns-then-not-is_table
returns-then-not-is_table c = not_table _ _ _ (sym c.is_table.ensures ∙ c.if-not-is_table.true)

pub read_counts-requires : goal.read_counts-requires
read_counts-requires c =
    let right : is_table c.args.table.now ≡ true = sym c.is_table.ensures ∙ c.if-not-is_table.false in
    head_in _ right

pub returns-then-not-full_ok : goal.returns-then-not-full_ok
returns-then-not-full_ok c =
    let right : is_table c.args.table.now ≡ true = sym c.is_table.ensures ∙ c.if-not-is_table.false in
    not-book _ right _ _ c.read_counts.ensures c.full_ok.ensures c.if-not-full_ok.true

pub returns : goal.returns
returns c =
    let right : is_table c.args.table.now ≡ true = sym c.is_table.ensures ∙ c.if-not-is_table.false in
    passed _ right _ _ c.read_counts.ensures c.full_ok.ensures c.if-not-full_ok.false
