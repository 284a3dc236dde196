-- What the loop keeps.
use Rattle.utf8.specs.Read.{Passed}
use Rattle.utf8.specs.Utf8.{utf8}
use lib.ListN.{drop}
use Rattle.utf8_ascii.proofs.skip_ascii.Given as goal

abbrev pub invariant-loop-j : goal.invariant-loop-j
invariant-loop-j l = Passed l.s l.i (utf8 (drop l.i l.s)) l.j
