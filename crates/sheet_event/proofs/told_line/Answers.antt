-- An operate, a name that fits, lots in range, and six numbers. Assumes nothing.
use mathlib.Core.Path.{◌∙◌, sym, ap}
use Rattle.std.proofs.lemmas.Result.{err_from_is_err_and}
use Rattle.text.proofs.Answers.{none_passed}
use Rattle.operate.specs.Read.{read_of}
use Rattle.sheet_event.proofs.EventLine.{unknown, long-name, bad_lots, no_room, event_is, kind_low, code_low}
use Rattle.sheet_event.proofs.told_line.Goals as goal

pub returns-in_err-o : goal.returns-in_err-o
returns-in_err-o c =
    let none = none_passed _ _ _ _ c.in_err-o.ensures.value c.from_residual.ensures.1 in
    rw none.1 (unknown c.requires.told (sym (ap read_of none.0) ∙ c.parse_operate.ensures))

pub returns-then-len-gt-NAME_LIMIT : goal.returns-then-len-gt-NAME_LIMIT
returns-then-len-gt-NAME_LIMIT c =
    let o = sym (ap read_of c.in_ok-o.ensures.ok_part) ∙ c.parse_operate.ensures in
    long-name c.requires.told o c.if-len-gt-NAME_LIMIT.true

pub returns-in_err-lots : goal.returns-in_err-lots
returns-in_err-lots c =
    let o = sym (ap read_of c.in_ok-o.ensures.ok_part) ∙ c.parse_operate.ensures in
    let p = err_from_is_err_and c.from_residual-in_err-lots.result c.from_residual-in_err-lots.ensures.1 in
    rw (p.1, p.2) (bad_lots c.requires.told o c.if-len-gt-NAME_LIMIT.false c.in_err-lots.ensures.is)

pub returns-then-n-ge-EVENT_LIMIT : goal.returns-then-n-ge-EVENT_LIMIT
returns-then-n-ge-EVENT_LIMIT c =
    let o = sym (ap read_of c.in_ok-o.ensures.ok_part) ∙ c.parse_operate.ensures in
    no_room c.requires.told o c.if-len-gt-NAME_LIMIT.false c.in_ok-lots.ensures.is c.if-n-ge-EVENT_LIMIT.true

pub returns : goal.returns
returns c =
    let o = sym (ap read_of c.in_ok-o.ensures.ok_part) ∙ c.parse_operate.ensures in
    let lots = c.in_ok-lots.ensures in
    event_is c.requires.told o c.if-len-gt-NAME_LIMIT.false lots.is lots.ok.0 lots.ok.1 c.requires.events_len.0 c.if-n-ge-EVENT_LIMIT.false (kind_low c.args.kind)
    (code_low c.in_ok-o.o) (rw (c.number.ensures, c.code.ensures) at c.put_event.ensures) c.with_counts.ensures
