-- The counts. Assumes nothing.
use mathlib.Core.Path.{◌∙◌, ap}
use Rattle.position_book_answer.specs.Rows.{counts_answer}
use Rattle.position_book.proofs.position_book_counts.Goals as goal

pub returns : goal.returns
returns c = c.counts_answer.ensures ∙ ap counts_answer c.row_counts.ensures
