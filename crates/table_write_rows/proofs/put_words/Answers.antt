-- `table_write_rows::put_words` meets its contract: `Wording`, the rows that stand, is the invariant. Assumes nothing.
use Rattle.table_write_rows.proofs.Rows.{rowing_last, wording_first, wording_fit, wording_more}
use Rattle.table_write_rows.proofs.put_words.Goals as goal

pub loop-i-init : goal.loop-i-init
loop-i-init c =
    wording_first c.requires.words_fit c.args.dst.now c.args.at c.requires.n_in_bounds

pub word_row-requires : goal.word_row-requires
word_row-requires c = wording_fit c.loop-i.invariant c.loop-i-test.true

pub loop-i-preserved : goal.loop-i-preserved
loop-i-preserved c =
    wording_more c.loop-i.invariant c.loop-i-test.true c.word_row.ensures c.put_word-p.ensures

pub returns : goal.returns
returns c = rowing_last c.loop-i.invariant.rows c.loop-i-test.false
