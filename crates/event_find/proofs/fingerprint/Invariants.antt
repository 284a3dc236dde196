-- What the loops keep.
use Rattle.event_find.specs.Steps.{PrintingEnd}
use Rattle.event_find.proofs.fingerprint.Given as goal

abbrev pub invariant-loop-i : goal.invariant-loop-i
invariant-loop-i l = PrintingEnd l.s l.from l.to l.h l.i
