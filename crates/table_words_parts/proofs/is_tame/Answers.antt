-- `table_words_parts::is_tame` meets its contract: `Taming`, whether a pair was met, is the invariant. Assumes nothing.
use Rattle.table_words_parts.proofs.Tame.{taming_first, taming_more, taming_last}
use Rattle.table_words_parts.proofs.is_tame.Goals as goal

pub loop-i-init : goal.loop-i-init
loop-i-init c = taming_first _

pub loop-i-preserved : goal.loop-i-preserved
loop-i-preserved c =
    taming_more c.loop-i.invariant c.loop-i-test.true c.met_pair-m.ensures

pub returns : goal.returns
returns c = taming_last c.loop-i.invariant c.loop-i-test.false
