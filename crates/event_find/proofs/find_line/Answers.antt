-- `event_find::find_line` meets its contract: `Seeking`, no line up to here has the key, is the invariant. Assumes nothing.
use mathlib.Core.Path.{sym, ◌∙◌}
use Rattle.event_find.proofs.Seek.{key-part, seek_others, seek_last, seek_found, seek_more}
use Rattle.event_find.proofs.find_line.Goals as goal

pub skip_lines-i-requires : goal.skip_lines-i-requires
skip_lines-i-requires c =
    let l = c.requires.lines_ok in
    (l.few, l.prints_room)

pub loop-i-init : goal.loop-i-init
loop-i-init c =
    seek_others c.requires.lines_ok c.requires.h_value c.skip_lines-i.ensures.0 c.skip_lines-i.ensures.1

pub is_key-requires : goal.is_key-requires
is_key-requires c = record { h_value = (c.requires.h_value, (c.requires.lines_ok.lines _ c.loop-i-test.true).printed); part = key-part c.requires.lines_ok c.loop-i-test.true }

pub returns-then-is_key : goal.returns-then-is_key
returns-then-is_key c =
    seek_found c.loop-i.invariant c.loop-i-test.true (sym c.if-is_key.true ∙ c.is_key.ensures)

pub loop-i-preserved : goal.loop-i-preserved
loop-i-preserved c =
    seek_more c.loop-i.invariant c.loop-i-test.true (sym c.if-is_key.false ∙ c.is_key.ensures)

pub returns : goal.returns
returns c = seek_last c.loop-i.invariant c.loop-i-test.false
