-- The length, UTF-8, the first line, and all others. Assumes nothing.
use mathlib.Core.Path.{◌∙◌, sym}
use native.Mathlib.Omega.{arith}
use Rattle.std.proofs.lemmas.Result.{err_from_is_err_and}
use Rattle.sheet_read.proofs.AllLines.{too_long, not-utf8, no_line, first-refused, sheet-is}
use Rattle.sheet_read.proofs.read_sheet.Goals as goal

pub returns-then-n-gt-TEXT_LIMIT : goal.returns-then-n-gt-TEXT_LIMIT
returns-then-n-gt-TEXT_LIMIT c =
    let a = c.args in
    too_long a.s.now a.events.now a.clauses.now c.if-n-gt-TEXT_LIMIT.true

pub returns-then-not-valid : goal.returns-then-not-valid
returns-then-not-valid c =
    let a = c.args in
    not-utf8 a.s.now a.events.now a.clauses.now c.if-n-gt-TEXT_LIMIT.false (sym c.valid.ensures ∙ c.if-not-valid.true)

pub returns-then-end-n : goal.returns-then-end-n
returns-then-end-n c =
    let a = c.args in
    no_line a.s.now a.events.now a.clauses.now c.if-n-gt-TEXT_LIMIT.false (sym c.valid.ensures ∙ c.if-not-valid.false) c.find-end.ensures c.if-end-n.true

pub returns-in_err-a : goal.returns-in_err-a
returns-in_err-a c =
    let a = c.args in
    let p = err_from_is_err_and c.from_residual.result c.from_residual.ensures.1 in
    rw (p.1, p.2)
    (first-refused a.s.now a.events.now a.clauses.now c.if-n-gt-TEXT_LIMIT.false (sym c.valid.ensures ∙ c.if-not-valid.false) c.find-end.ensures c.if-end-n.false c.in_err-a.ensures)

pub later_lines-requires : goal.later_lines-requires
later_lines-requires c =
    record {
      from_in_bounds = omega (arith, c.find-end.ensures.high, c.if-end-n.false);
      events_len = (c.requires.0, c.requires.1, c.if-n-gt-TEXT_LIMIT.false);
      sheet_ok = (c.in_ok-a.ensures c.args.events.now c.args.clauses.now).ok;
    }

pub returns : goal.returns
returns c =
    let a = c.args in
    sheet-is a.s.now a.events.now a.clauses.now c.if-n-gt-TEXT_LIMIT.false (sym c.valid.ensures ∙ c.if-not-valid.false) c.find-end.ensures c.if-end-n.false c.in_ok-a.ensures
    c.later_lines.ensures
