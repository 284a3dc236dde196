-- `book_store::fresh` meets its contract. Assumes nothing.
use Rattle.std.specs.Prelude.{None, Some, Err}
use native.Mathlib.Omega.{arith}
use mathlib.Core.Path.{◌≡◌}
use Rattle.book.specs.declared.OpenError.TheVariants.{WrongLength}
use Rattle.book_store.proofs.Answers.{fresh-priced, fresh_wrong, fresh-size, fresh-room, fresh-done}
use Rattle.book_store.proofs.fresh.Goals as goal

pub returns-in_err-c : goal.returns-in_err-c
returns-in_err-c c =
    let none : c.capacity.result ≡ None = grind arith in
    let told : c.from_residual.result ≡ Err WrongLength = grind arith in
    rw told (fresh_wrong c.capacity.ensures none)

pub put_head-requires : goal.put_head-requires
put_head-requires c =
    let s = c.capacity.ensures in
    let some : c.capacity.result ≡ Some c.in_ok-c.c = grind arith in
    record { in_bounds = fresh-room s some c.clear.ensures; c_le_bar_limit = (fresh-size s some).most; reference_value = fresh-priced c.fresh_head.ensures }

pub returns : goal.returns
returns c =
    let some : c.capacity.result ≡ Some c.in_ok-c.c = grind arith in
    fresh-done c.capacity.ensures some c.clear.ensures c.fresh_head.ensures c.put_head.ensures
