-- A number of at most 18 digits, which an i64 holds. Assumes nothing.
use mathlib.Core.Path.{◌∙◌, sym, ap}
use Rattle.text.specs.Number.{plus}
use Rattle.text_number.proofs.Whole.{plain_fits, plain-is}
use Rattle.run_input.proofs.read_plain.Goals as goal

pub returns-in_err-decimal : goal.returns-in_err-decimal
returns-in_err-decimal c = c.from_residual.ensures ∙ ap plus (sym c.in_err-decimal.was ∙ c.decimal.ensures)

pub overflow_cast-result : goal.overflow_cast-result
overflow_cast-result c = plain_fits c.requires.n_bound _ (sym c.in_ok-decimal.was ∙ c.decimal.ensures)

pub returns : goal.returns
returns c = plain-is c.requires.n_bound _ (sym c.in_ok-decimal.was ∙ c.decimal.ensures)
