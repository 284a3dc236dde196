-- What the loops keep.
use Rattle.text_number.proofs.Hex.{Hexing}
use Rattle.text_number.proofs.read_hex.Given as goal

abbrev pub invariant-loop-i : goal.invariant-loop-i
invariant-loop-i l = Hexing l.s l.from l.to l.v l.i
