-- The text's own refusals first, then its lines. Assumes nothing.
use mathlib.Core.Path.{◌∙◌, sym}
use Rattle.event_signals.proofs.Adding.{reading-first, signals-long, signals-bytes, signals-fine}
use Rattle.event_signals.proofs.read_signals.Goals as goal

pub returns-then-s-gt-TEXT_LIMIT : goal.returns-then-s-gt-TEXT_LIMIT
returns-then-s-gt-TEXT_LIMIT c = signals-long c.if-s-gt-TEXT_LIMIT.true

pub returns-then-not-valid : goal.returns-then-not-valid
returns-then-not-valid c = signals-bytes c.if-s-gt-TEXT_LIMIT.false (sym c.valid.ensures ∙ c.if-not-valid.true)

pub read_lines-requires : goal.read_lines-requires
read_lines-requires c =
    reading-first _ _ _ _ (signals-fine _ c.if-s-gt-TEXT_LIMIT.false (sym c.valid.ensures ∙ c.if-not-valid.false)) c.requires
