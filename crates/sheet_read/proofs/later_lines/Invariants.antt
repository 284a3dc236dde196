-- What the loops keep.
use Prim.Native.Nat.{◌-◌}
use lib.ListN.{length}
use Rattle.sheet_read.proofs.AllLines.{Going}
use Rattle.sheet_read.proofs.later_lines.Given as goal

abbrev pub invariant-loop-i : goal.invariant-loop-i
invariant-loop-i l = Going l.s l.from l.initial.sheet l.initial.events l.initial.clauses l.events l.clauses l.sheet l.i

abbrev pub decreases-loop-i : goal.decreases-loop-i
decreases-loop-i l = length l.s - l.i
