-- What the loops keep.
use Prim.Native.Nat.{◌-◌}
use Rattle.event_find.proofs.Others.{Skipping}
use Rattle.event_find.proofs.skip_lines.Given as goal

abbrev pub invariant-loop-i : goal.invariant-loop-i
invariant-loop-i l = Skipping l.prints l.h l.i

abbrev pub decreases-loop-i : goal.decreases-loop-i
decreases-loop-i l = l.n - l.i
