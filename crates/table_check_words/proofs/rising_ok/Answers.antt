-- `table_check_words::rising_ok` meets its contract: `Rising`, that the texts rise so far, is the invariant. Assumes nothing.
use mathlib.Core.Path.{sym, ◌∙◌}
use native.Mathlib.Omega.{arith}
use Rattle.table_check_words.proofs.Rising.{inside-text, inside-order, rising-first, rising_off, rising-more, rising-last}
use Rattle.table_check_words.proofs.rising_ok.Goals as goal

pub loop-i-init : goal.loop-i-init
loop-i-init c = rising-first _ _ _

pub precedes-requires : goal.precedes-requires
precedes-requires c =
    let s = c.requires in
    record {
      v_within = inside-text s (inside-order s (omega (arith, c.loop-i-test.true)) c.word_at-a.ensures) c.word_at.ensures;
      w_within = inside-text s (inside-order s c.loop-i-test.true c.word_at-b.ensures) c.word_at-in-loop-i.ensures;
    }

pub returns-then-not-precedes : goal.returns-then-not-precedes
returns-then-not-precedes c =
    rising_off c.loop-i.invariant c.requires c.loop-i-test.true c.word_at-a.ensures c.word_at-b.ensures c.word_at.ensures c.word_at-in-loop-i.ensures
    (sym c.if-not-precedes.true ∙ c.precedes.ensures)

pub loop-i-preserved : goal.loop-i-preserved
loop-i-preserved c =
    rising-more c.loop-i.invariant c.requires c.loop-i-test.true c.word_at-a.ensures c.word_at-b.ensures c.word_at.ensures c.word_at-in-loop-i.ensures
    (sym c.if-not-precedes.false ∙ c.precedes.ensures)

pub returns : goal.returns
returns c = rising-last c.loop-i.invariant c.loop-i-test.false
