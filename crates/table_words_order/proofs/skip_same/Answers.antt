-- `table_words_order::skip_same` meets its contract: `Level`, that the first j blocks are the same, is the invariant. Assumes nothing.
use Prim.Native.Nat.{◌+◌, ◌*◌, ◌/◌}
use native.Mathlib.Omega.{arith}
use mathlib.Core.Path.{◌≡◌}
use Rattle.table_words_order.proofs.Level.{level_none, level_on}
use Rattle.table_words_order.proofs.skip_same.Goals as goal

pub loop-j-init : goal.loop-j-init
loop-j-init c = level_none _ _ 0 (omega arith) (omega arith)

pub returns-then-not-same_block : goal.returns-then-not-same_block
returns-then-not-same_block c = c.loop-j.invariant

pub loop-j-preserved : goal.loop-j-preserved
loop-j-preserved c =
    let e : 8 * (c.loop-j.j + 1) ≡ 8 * c.loop-j.j + 8 = omega arith in
    rw e (level_on c.loop-j.invariant (c.same_block.ensures c.if-not-same_block.false))

pub returns : goal.returns
returns c =
    let e : 8 * c.loop-j.j ≡ 8 * (c.min-n.result / 8) = omega arith in
    rw e at c.loop-j.invariant
