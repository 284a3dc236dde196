-- What the loop keeps.
use Rattle.std.specs.Prelude.{Some}
use Prim.Native.Nat.{◌-◌}
use lib.ListN.{drop, replicate}
use Rattle.utf8.specs.Read.{Read}
use Rattle.utf8.specs.Utf8.{utf8_tail, right}
use Rattle.utf8.proofs.tails.Given as goal

abbrev pub invariant-loop-j : goal.invariant-loop-j
invariant-loop-j l = Read l.s l.i (right (Some (replicate l.more utf8_tail)) (drop l.i l.s)) (Some (replicate (l.end - l.j) utf8_tail)) l.j
