-- `Walking` is the invariant: the rows of the pairs before record number j are written. Assumes nothing.
use Prim.Native.Nat.{◌+◌, ◌<◌}
use native.Mathlib.Omega.{arith}
use mathlib.Core.Path.{◌∙◌, sym}
use Rattle.le.specs.Field.{u32}
use Rattle.row_blocks_pairs.proofs.Walking.{walking_none, walking_passed, walking_next, walking_full, walking_last}
use Rattle.row_blocks_pairs.proofs.put_rows.Goals as goal
use Rattle.row_blocks_pairs.proofs.put_rows.Goals.{then-opens_at+in-Some, else-opens_at}

pub loop-j-init : goal.loop-j-init
loop-j-init c = walking_none _ _ _ _ _

pub opens_at-requires : goal.opens_at-requires
opens_at-requires c = omega (arith, c.requires.traded.room, c.loop-j-test.true, c.saturating_sub-j-end.ensures, c.get_u32-n.ensures)

pub add_pair-requires : goal.add_pair-requires
add_pair-requires c = record {
  t_value = c.requires.t_value;
  traded = c.requires.traded;
  j_bound = omega (arith, c.loop-j-test.true, c.saturating_sub-j-end.ensures, c.get_u32-n.ensures);
  at_in_bounds = omega (arith, c.loop-j.invariant.fit, c.loop-j.invariant.kept);
}

pub overflow_add-rows : goal.overflow_add-rows
overflow_add-rows c = omega (arith, c.loop-j.invariant.few, c.loop-j-test.true)

pub loop-j-preserved : goal.loop-j-preserved
loop-j-preserved c =
    let more : c.loop-j.j + 1 < u32 c.args.b.now 4 = omega (arith, c.loop-j-test.true, c.saturating_sub-j-end.ensures, c.get_u32-n.ensures) in
    let r = c.loop-j.invariant in
    elim c.if-opens_at.branch [
      | then-opens_at+in-Some w ↦ rw (w.out-is, w.at-is, w.rows-is) (walking_next r more (sym w.if-opens_at.true ∙ c.opens_at.ensures) w.in-Some.ensures)
      | else-opens_at w ↦ rw (w.out-is, w.at-is, w.rows-is) (walking_passed r more (sym w.if-opens_at.false ∙ c.opens_at.ensures))
    ]

pub returns-in_default : goal.returns-in_default
returns-in_default c =
    let more : c.loop-j.j + 1 < u32 c.args.b.now 4 = omega (arith, c.loop-j-test.true, c.saturating_sub-j-end.ensures, c.get_u32-n.ensures) in
    walking_full c.loop-j.invariant more (sym c.if-opens_at.true ∙ c.opens_at.ensures) c.in_default.ensures

pub returns : goal.returns
returns c = walking_last c.loop-j.invariant (omega (arith, c.loop-j-test.false, c.saturating_sub-j-end.ensures, c.get_u32-n.ensures))
