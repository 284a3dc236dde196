-- `table_check_texts::texts_ok` meets its contract. Assumes nothing.
use mathlib.Core.Path.{◌∙◌}
use Rattle.table_check_texts.proofs.Lent.{texts_unclean, texts-cut}
use Rattle.table_check_texts.proofs.texts_ok.Goals as goal

pub returns-then-is_clean : goal.returns-then-is_clean
returns-then-is_clean c = texts-cut c.requires c.is_clean.ensures c.if-is_clean.true c.cuts_ok.ensures

pub returns-else-is_clean : goal.returns-else-is_clean
returns-else-is_clean c = c.if-is_clean.false ∙ texts_unclean c.requires c.is_clean.ensures c.if-is_clean.false
