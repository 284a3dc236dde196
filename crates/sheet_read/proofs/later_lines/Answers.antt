-- `Going` is the invariant: the lines read so far made the sheet that the numbers mean. Assumes nothing.
use borrow.Author.Rules.{rules}
use Rattle.std.proofs.lemmas.Result.{err_from_is_err_and}
use Rattle.sheet_read.proofs.AllLines.{going-first, going-last, going-cut, going-refused, going_next}
use Rattle.sheet_read.proofs.later_lines.Goals as goal

pub loop-i-init : goal.loop-i-init
loop-i-init c =
    going-first c.requires.from_in_bounds c.requires.events_len.0 c.requires.events_len.1 c.requires.sheet_ok

pub returns-then-end-n : goal.returns-then-end-n
returns-then-end-n c = going-cut c.loop-i.invariant c.find-end.ensures c.loop-i-test.true c.if-end-n.true

pub returns-in_err-sheet : goal.returns-in_err-sheet
returns-in_err-sheet c =
    let p = err_from_is_err_and c.from_residual.result c.from_residual.ensures.1 in
    rw (p.1, p.2) (going-refused c.loop-i.invariant c.find-end.ensures c.if-end-n.false c.in_err-sheet.ensures)

pub loop-i-preserved : goal.loop-i-preserved
loop-i-preserved c =
    going_next c.loop-i.invariant c.find-end.ensures c.if-end-n.false c.in_ok-sheet.ensures (search rules) (search rules)

pub returns : goal.returns
returns c = going-last c.loop-i.invariant c.loop-i-test.false
