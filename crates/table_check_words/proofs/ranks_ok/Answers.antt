-- `table_check_words::ranks_ok` meets its contract. Assumes nothing.
use Rattle.table_check_words.proofs.Ranks.{ranking_first, ranking_off, ranking_more, ranking_last}
use mathlib.Core.Path.{sym, ◌∙◌}
use Rattle.table_check_words.proofs.ranks_ok.Goals as goal

pub loop-i-init : goal.loop-i-init
loop-i-init c = ranking_first _ _ c.requires

pub returns-then-not-rank_ok : goal.returns-then-not-rank_ok
returns-then-not-rank_ok c =
    ranking_off c.loop-i.invariant c.loop-i-test.true (sym c.rank_ok.ensures ∙ c.if-not-rank_ok.true)

pub loop-i-preserved : goal.loop-i-preserved
loop-i-preserved c =
    ranking_more c.loop-i.invariant c.loop-i-test.true (sym c.rank_ok.ensures ∙ c.if-not-rank_ok.false)

pub returns : goal.returns
returns c = ranking_last c.loop-i.invariant c.loop-i-test.false
