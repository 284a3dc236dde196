-- The loop ends: each line is behind the one before it.
use Rattle.std.proofs.Common.{◌-◌}
use Rattle.test_vectors.proofs.lines.Given as goal

abbrev pub decreases-loop-at : goal.decreases-loop-at
decreases-loop-at g l = l.n - l.at
