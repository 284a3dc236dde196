-- The line ends behind the LF that was found, or with the text. Assumes nothing.
use native.Mathlib.Omega.{arith}
use Rattle.revise.proofs.Lines.{lines_next, lines-last}
use borrow.Author.Rules.{rules}
use Rattle.revise_line.proofs.line_end.Goals as goal

pub returns-then-lf-s : goal.returns-then-lf-s
returns-then-lf-s c = rw c.if-lf-s.true (lines-last (search rules) c.find_lf-lf.ensures c.requires c.if-lf-s.true)

pub returns-else-lf-s : goal.returns-else-lf-s
returns-else-lf-s c = lines_next (search rules) c.find_lf-lf.ensures (omega arith)
