-- `book_entry::put_yield` meets its contract. Assumes nothing.
use mathlib.Core.Path.{◌∙◌, sym, ap}
use Rattle.le.specs.Le.{patch, le_bytes}
use Rattle.book.specs.Layout.{yield_bytes}
use Rattle.book_entry.proofs.put_yield.Goals as goal

pub returns-in-Absent : goal.returns-in-Absent
unfolding le_bytes
returns-in-Absent c =
    let a = c.args in
    c.put_u64.ensures ∙ sym (ap (λ y. patch a.b.now a.at (yield_bytes y)) c.in-Absent.is)
