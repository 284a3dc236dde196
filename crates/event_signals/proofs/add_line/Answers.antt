-- No line, a key twice, too many lines, or one line more. Assumes nothing.
use mathlib.Core.Path.{◌∙◌, sym}
use Rattle.event_signals.proofs.Adding.{found-has, line_twice, line-past, line-more}
use Rattle.event_signals.proofs.add_line.Goals as goal

pub returns-then-is_some : goal.returns-then-is_some
returns-then-is_some c =
    let two = rw c.in_ok-mid.ensures.ok_part at c.read_line.ensures in
    line_twice c.requires.reading two (found-has _ _ _ _ _ _ c.find_line.ensures ∙ sym c.is_some.ensures ∙ c.if-is_some.true)

pub returns-then-n-eq-LINE_LIMIT : goal.returns-then-n-eq-LINE_LIMIT
returns-then-n-eq-LINE_LIMIT c =
    let two = rw c.in_ok-mid.ensures.ok_part at c.read_line.ensures in
    line-past c.requires.reading two (found-has _ _ _ _ _ _ c.find_line.ensures ∙ sym c.is_some.ensures ∙ c.if-is_some.false) c.if-n-eq-LINE_LIMIT.true

pub returns : goal.returns
returns c =
    let two = rw c.in_ok-mid.ensures.ok_part at c.read_line.ensures in
    line-more c.requires.reading two (found-has _ _ _ _ _ _ c.find_line.ensures ∙ sym c.is_some.ensures ∙ c.if-is_some.false) c.if-n-eq-LINE_LIMIT.false
    c.fingerprint-h.ensures
