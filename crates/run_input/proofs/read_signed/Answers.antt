-- A number of at most 18 digits, perhaps behind `-`, by its first byte. Assumes nothing.
use mathlib.Core.Path.{◌∙◌, sym, ap}
use Rattle.text.specs.Number.{negated}
use Rattle.text_number.proofs.Whole.{plain_fits}
use Rattle.run_input.proofs.Numbers.{minus_fits, minus_is, signed-none, signed-plain, signed_minus}
use Rattle.run_input.proofs.read_signed.Goals as goal

pub returns-then-from-to : goal.returns-then-from-to
returns-then-from-to c = signed-none c.requires.part c.args.n c.if-from-to.true

pub returns-then-s-from-ne45 : goal.returns-then-s-from-ne45
returns-then-s-from-ne45 c =
    c.read_plain.ensures ∙ signed-plain c.requires.part c.args.n c.if-from-to.false c.if-s-from-ne45.true

pub returns-in_err-decimal : goal.returns-in_err-decimal
returns-in_err-decimal c =
    c.from_residual.ensures ∙ ap negated (sym c.in_err-decimal.was ∙ c.decimal.ensures)
    ∙ signed_minus c.requires.part c.args.n c.if-from-to.false c.if-s-from-ne45.false

pub overflow_cast-result : goal.overflow_cast-result
overflow_cast-result c = plain_fits c.requires.n_bound _ (sym c.in_ok-decimal.was ∙ c.decimal.ensures)

pub overflow_sub-result : goal.overflow_sub-result
overflow_sub-result c = minus_fits c.requires.n_bound _ (sym c.in_ok-decimal.was ∙ c.decimal.ensures)

pub returns : goal.returns
returns c =
    minus_is c.requires.n_bound _ (sym c.in_ok-decimal.was ∙ c.decimal.ensures)
    ∙ signed_minus c.requires.part c.args.n c.if-from-to.false c.if-s-from-ne45.false
