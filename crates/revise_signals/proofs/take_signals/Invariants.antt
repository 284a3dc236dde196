-- The S lines before `at` are copied; each turn is one line further.
use Rattle.revise_signals.proofs.Taking.{Taking}
use Prim.Native.Nat.{◌-◌}
use lib.ListN.{length}
use Rattle.revise_signals.proofs.take_signals.Given as goal

abbrev pub invariant-loop-at : goal.invariant-loop-at
invariant-loop-at l = Taking l.s l.from l.signals l.at l.size

abbrev pub decreases-loop-at : goal.decreases-loop-at
decreases-loop-at l = length l.s - l.at
