-- What the loops keep.
use Prim.Native.Nat.{◌-◌}
use lib.ListN.{length}
use Rattle.position.specs.Rows.{hold_rows}
use Rattle.position.specs.Run.{hold_line}
use Rattle.book.specs.Layout.{holds_of}
use Rattle.run_output.specs.Shown.{hold_room}
use Rattle.run_rows.proofs.Listed.{Listed}
use Rattle.run_rows.proofs.put_holds.Given as goal

abbrev pub invariant-loop-r : goal.invariant-loop-r
invariant-loop-r l = Listed (hold_rows (holds_of l.book)) hold_line hold_room l.initial.out l.out l.from l.i l.at

abbrev pub decreases-loop-r : goal.decreases-loop-r
decreases-loop-r l = length (hold_rows (holds_of l.book)) - l.i
