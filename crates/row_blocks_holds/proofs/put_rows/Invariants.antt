-- What the loop keeps.
use Rattle.row_blocks_holds.proofs.Writing.{Writing}
use Rattle.row_blocks_holds.proofs.put_rows.Given as goal

abbrev pub invariant-loop-i : goal.invariant-loop-i
invariant-loop-i l = Writing l.b l.k l.initial.out l.out l.i
