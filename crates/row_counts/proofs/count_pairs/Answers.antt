-- `Counting` is the invariant: the pairs before record number j are counted. Assumes nothing.
use Prim.Native.Nat.{◌+◌, ◌<◌}
use native.Mathlib.Omega.{arith}
use mathlib.Core.Path.{◌∙◌, sym}
use Rattle.le.specs.Field.{u32}
use Rattle.row_counts.proofs.Counting.{counting_none, counting_next, counting_passed, counting_last}
use Rattle.row_counts.proofs.count_pairs.Goals as goal
use Rattle.row_counts.proofs.count_pairs.Goals.{then-opens_at, else-opens_at}

pub loop-j-init : goal.loop-j-init
loop-j-init c = counting_none _ _

pub loop-j-preserved : goal.loop-j-preserved
loop-j-preserved c =
    let more : c.loop-j.j + 1 < u32 c.args.b.now 4 = omega (arith, c.loop-j-test.true, c.saturating_sub-j-end.ensures, c.get_u32-n.ensures) in
    let r = c.loop-j.invariant in
    elim c.if-opens_at.branch [
      | then-opens_at w ↦ rw w.pairs-is (counting_next r more (sym w.if-opens_at.true ∙ c.opens_at.ensures))
      | else-opens_at w ↦ rw w.pairs-is (counting_passed r more (sym w.if-opens_at.false ∙ c.opens_at.ensures))
    ]

pub returns : goal.returns
returns c = counting_last c.loop-j.invariant (omega (arith, c.loop-j-test.false, c.saturating_sub-j-end.ensures, c.get_u32-n.ensures))
