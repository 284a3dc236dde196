-- What the loops keep.
use Prim.Native.Nat.{◌-◌}
use lib.ListN.{length}
use Rattle.position.specs.Run.{pair_line}
use Rattle.run_output.specs.Shown.{pair_room}
use Rattle.run_rows.specs.Rows.{pair_rows}
use Rattle.run_rows.proofs.Listed.{Listed}
use Rattle.run_rows.proofs.put_pairs.Given as goal

abbrev pub invariant-loop-r : goal.invariant-loop-r
invariant-loop-r l = Listed (pair_rows l.table l.book) pair_line pair_room l.initial.out l.out l.from l.i l.at

abbrev pub decreases-loop-r : goal.decreases-loop-r
decreases-loop-r l = length (pair_rows l.table l.book) - l.i
