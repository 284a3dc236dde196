-- `text_number::decimal` meets its contract: too many digits, or a number that is not cut. Assumes nothing.
use mathlib.Core.Path.{◌∙◌}
use Rattle.text_number.proofs.Digits.{decimal_long, decimal_few}
use Rattle.text_number.proofs.decimal.Goals as goal

pub returns-then-n-to : goal.returns-then-n-to
returns-then-n-to c = decimal_long c.requires.part _ c.if-n-to.true

pub returns : goal.returns
returns c =
    let w = c.before.before.before in
    c.magnitude.ensures ∙ decimal_few w.requires.part _ w.requires.n_bound c.if-n-to.false
