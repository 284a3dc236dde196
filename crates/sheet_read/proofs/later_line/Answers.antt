-- A tag of one byte, and the line that it tells. Assumes nothing.
use native.Mathlib.Omega.{arith}
use Rattle.sheet_read.proofs.LaterLine.{line-short, line-long, line_other, line_o, line_x, line_a, line_y, line_n}
use Rattle.sheet_read.proofs.later_line.Goals as goal
use Rattle.sheet_read.proofs.later_line.Goals.{then-to-from-lt2-via-then-to-from-lt2, then-to-from-lt2-via-else-to-from-lt2+then-s-from-ne-PIPE}

pub returns-then-to-from-lt2 : goal.returns-then-to-from-lt2
returns-then-to-from-lt2 c =
    elim c.then-to-from-lt2.branch [
      | then-to-from-lt2-via-then-to-from-lt2 w ↦ line-short c.requires.sheet_ok c.requires.part w.if-to-from-lt2.true
      | then-to-from-lt2-via-else-to-from-lt2+then-s-from-ne-PIPE w ↦ line-long c.requires.sheet_ok c.requires.part w.if-to-from-lt2.false w.if-s-from-ne-PIPE.true
    ]

pub returns-in-79 : goal.returns-in-79
returns-in-79 c =
    line_o c.requires.sheet_ok c.requires.part c.if-to-from-lt2.false c.if-s-from-ne-PIPE.false c.in-79.is c.event_line.ensures

pub returns-in-88 : goal.returns-in-88
returns-in-88 c =
    line_x c.requires.sheet_ok c.requires.part c.if-to-from-lt2.false c.if-s-from-ne-PIPE.false c.in-88.is c.event_line-in-88.ensures

pub returns-in-65 : goal.returns-in-65
returns-in-65 c =
    line_a c.requires.sheet_ok c.requires.part c.if-to-from-lt2.false c.if-s-from-ne-PIPE.false c.in-65.is c.clause_line.ensures

pub returns-in-89 : goal.returns-in-89
returns-in-89 c =
    line_y c.requires.sheet_ok c.requires.part c.if-to-from-lt2.false c.if-s-from-ne-PIPE.false c.in-89.is c.clause_line-in-89.ensures

pub returns-in-78 : goal.returns-in-78
returns-in-78 c =
    line_n c.requires.sheet_ok c.requires.part c.if-to-from-lt2.false c.if-s-from-ne-PIPE.false c.in-78.is c.clause_line-in-78.ensures

pub returns-in_default : goal.returns-in_default
returns-in_default c =
    line_other c.requires.sheet_ok c.requires.part c.if-to-from-lt2.false c.if-s-from-ne-PIPE.false (omega arith) (omega arith) (omega arith) (omega arith) (omega arith)
