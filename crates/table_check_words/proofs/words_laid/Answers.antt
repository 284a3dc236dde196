-- `table_check_words::words_laid` meets its contract. Assumes nothing.
use Rattle.table_check_words.proofs.Words.{laying_first, laying_off, laying_more, laying_last}
use mathlib.Core.Path.{sym, ◌∙◌}
use Rattle.table_check_words.proofs.words_laid.Goals as goal

pub loop-i-init : goal.loop-i-init
loop-i-init c = laying_first _ _ _ _ c.requires.n_in_bounds c.requires.texts_value

pub word_fits-requires : goal.word_fits-requires
word_fits-requires c = record { texts_value = c.loop-i.invariant.rest; texts_value_2 = c.is_tame-tame.ensures }

pub returns-then-not-word_fits : goal.returns-then-not-word_fits
returns-then-not-word_fits c =
    laying_off c.loop-i.invariant c.loop-i-test.true c.word_at-w.ensures (sym c.word_fits.ensures ∙ c.if-not-word_fits.true)

pub loop-i-preserved : goal.loop-i-preserved
loop-i-preserved c =
    laying_more c.loop-i.invariant c.loop-i-test.true c.word_at-w.ensures (sym c.word_fits.ensures ∙ c.if-not-word_fits.false)

pub returns : goal.returns
returns c = laying_last c.loop-i.invariant c.loop-i-test.false
