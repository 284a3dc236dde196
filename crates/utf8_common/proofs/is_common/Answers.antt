-- `utf8_common::is_common` meets its contract: a first byte and two tails. Assumes nothing.
use native.Mathlib.Omega.{arith}
use borrow.Author.Tests.{eqb-true}
use lib.ListN.{length, get_or}
use Prim.Native.Nat.{◌+◌, ◌<◌}
use Rattle.utf8_common.proofs.Common.{common_at}
use Rattle.utf8_common.proofs.is_common.Goals as goal

pub returns-then-s-i-gt224 : goal.returns-then-s-i-gt224
returns-then-s-i-gt224 c e =
    let room : c.args.i + 2 < length c.args.s.now = grind arith in
    let above : 0xe0 < get_or c.args.s.now c.args.i 0 = grind arith in
    common_at _ _ room above c.not_start.ensures c.not_tail.ensures c.not_tail-then-s-i-gt224.ensures (eqb-true _ _ e)
