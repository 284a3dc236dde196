-- What the loops keep.
use Prim.Native.Nat.{◌-◌}
use lib.ListN.{length}
use Rattle.revise_line.proofs.Blocks.{Passing}
use Rattle.revise_line.proofs.find_lf.Given as goal

abbrev pub invariant-loop-i : goal.invariant-loop-i
invariant-loop-i l = Passing l.s l.from l.i

abbrev pub decreases-loop-i : goal.decreases-loop-i
decreases-loop-i l = length l.s - l.i
