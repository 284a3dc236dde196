-- `table_words_parts::few_parts` meets its contract. Assumes nothing.
use mathlib.Core.Path.{◌∙◌}
use borrow.Author.Tests.{le-ltb}
use Rattle.table_words_parts.proofs.Count.{tame_many, tame_rest}
use Rattle.table_words_parts.proofs.few_parts.Goals as goal

pub returns-then-c-limit : goal.returns-then-c-limit
returns-then-c-limit c =
    tame_rest (c.requires c.if-not-tame.false) c.count_blocks-c.ensures c.if-c-limit.true c.few_behind.ensures

pub returns-else-c-limit : goal.returns-else-c-limit
returns-else-c-limit c =
    le-ltb _ _ c.if-c-limit.false ∙ tame_many (c.requires c.if-not-tame.false) c.count_blocks-c.ensures c.if-c-limit.false
