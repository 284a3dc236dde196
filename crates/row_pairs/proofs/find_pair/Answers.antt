-- `Seeking` is the invariant: pair number i is pair number `left` of the records from j on. Assumes nothing.
use Prim.Native.Nat.{◌+◌, ◌<◌}
use native.Mathlib.Omega.{arith}
use mathlib.Core.Path.{◌∙◌, refl, sym}
use Rattle.le.specs.Field.{u32}
use Rattle.row_pairs.proofs.Find.{seeking_last, seeking_hit, seeking_opened, seeking_passed}
use Rattle.row_pairs.proofs.find_pair.Goals as goal
use Rattle.row_pairs.proofs.find_pair.Goals.{then-opens_at+else-left-eq0, else-opens_at}

pub loop-j-init : goal.loop-j-init
loop-j-init c = record { begun = omega arith; le = c.requires.from_bound; still = λ s. refl }

pub returns-then-left-eq0 : goal.returns-then-left-eq0
returns-then-left-eq0 c =
    let more : c.loop-j.j + 1 < u32 c.args.b.now 4 = omega (arith, c.loop-j-test.true, c.saturating_sub-j-end.ensures, c.get_u32-n.ensures) in
    seeking_hit c.loop-j.invariant more (sym c.if-opens_at.true ∙ c.opens_at.ensures) c.if-left-eq0.true

pub loop-j-preserved : goal.loop-j-preserved
loop-j-preserved c =
    let more : c.loop-j.j + 1 < u32 c.args.b.now 4 = omega (arith, c.loop-j-test.true, c.saturating_sub-j-end.ensures, c.get_u32-n.ensures) in
    let r = c.loop-j.invariant in
    elim c.if-opens_at.branch [
      | then-opens_at+else-left-eq0 w ↦ rw w.left-is (seeking_opened r more (sym w.if-opens_at.true ∙ c.opens_at.ensures) w.if-left-eq0.false)
      | else-opens_at w ↦ rw w.left-is (seeking_passed r more (sym w.if-opens_at.false ∙ c.opens_at.ensures))
    ]

pub returns : goal.returns
returns c = seeking_last c.loop-j.invariant (omega (arith, c.loop-j-test.false, c.saturating_sub-j-end.ensures, c.get_u32-n.ensures))
