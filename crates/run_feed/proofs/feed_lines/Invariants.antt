-- What the loops keep.
use Prim.Native.Nat.{◌-◌}
use lib.ListN.{length}
use Rattle.run_feed.proofs.Lines.{Looping}
use Rattle.run_feed.proofs.feed_lines.Given as goal

abbrev pub invariant-loop-i : goal.invariant-loop-i
invariant-loop-i l = Looping l.s l.table l.initial.book l.initial.signals l.initial.out l.book l.signals l.out l.p l.i

abbrev pub decreases-loop-i : goal.decreases-loop-i
decreases-loop-i l = length l.s - l.i
