-- What the loops keep.
use Rattle.utf8.specs.Read.{Passed}
use Rattle.utf8.specs.Utf8.{utf8}
use Prim.Native.Nat.{◌-◌}
use lib.ListN.{length, drop}
use Rattle.utf8_ascii.proofs.skip_blocks.Given as goal

abbrev pub invariant-loop-j : goal.invariant-loop-j
invariant-loop-j l = Passed l.s l.i (utf8 (drop l.i l.s)) l.j

abbrev pub decreases-loop-j : goal.decreases-loop-j
decreases-loop-j l = length l.s - l.j
