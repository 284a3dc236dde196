-- Some bytes, each a digit or not. Assumes nothing.
use Prim.Native.Nat.{◌≤◌, ◌<◌}
use borrow.Author.Rules.{rules}
use lib.ListN.{length, get_or}
use Rattle.std.specs.Prelude.{EachIndex, IsTrue, ◌↔◌}
use Rattle.bar_line_price.proofs.Digits.{digits_each, no_digits}
use Rattle.bar_line_price.proofs.are_digits.Goals as goal

pub returns-then-not-is_empty : goal.returns-then-not-is_empty
returns-then-not-is_empty c =
    let each : IsTrue c.all.result ↔ EachIndex c.args.s.now (λ k. (48 ≤ get_or c.args.s.now k 0) × (get_or c.args.s.now k 0 ≤ 57)) = search rules in
    let some : 0 < length c.args.s.now = search rules in
    digits_each c.args.s.now c.all.result some each

pub returns-else-not-is_empty : goal.returns-else-not-is_empty
returns-else-not-is_empty c =
    let none : length c.args.s.now ≤ 0 = search rules in
    rw c.if-not-is_empty.false (no_digits c.args.s.now none)
