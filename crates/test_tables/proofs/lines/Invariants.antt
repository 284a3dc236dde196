-- What the loop keeps: the lengths of the text and the table. It ends: each line is behind the one before it.
use Rattle.std.proofs.Common.{length, ◌-◌, ◌≡◌}
use Rattle.test_tables.proofs.lines.Given as goal

abbrev pub invariant-loop-at : goal.invariant-loop-at
invariant-loop-at g l = (length l.text ≡ length l.initial.text) × (length l.table ≡ length l.initial.table)

abbrev pub decreases-loop-at : goal.decreases-loop-at
decreases-loop-at g l = l.n - l.at
