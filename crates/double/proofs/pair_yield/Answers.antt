-- `double::pair_yield` meets its contract. Assumes nothing.
use mathlib.Core.Path.{◌≡◌, sym, ◌∙◌}
use mathlib.Core.Bool.{true, false}
use Rattle.double.specs.Double.{is_zero, pair_yield}
use Rattle.double.proofs.Constants.{zero_is, hundred_is, scale_is}
use Rattle.double.proofs.Tests.{zero_test}
use Rattle.double.proofs.pair_yield.Goals as goal

pub returns-then-opening : goal.returns-then-opening
unfolding pair_yield
returns-then-opening c =
    let x = c.args.opening in
    let t : is_zero x ≡ true = sym (zero_test x) ∙ (rw zero_is at c.if-opening.true) in
    rw t

pub returns-else-opening : goal.returns-else-opening
unfolding pair_yield
returns-else-opening c =
    let x = c.args.opening in
    let t : is_zero x ≡ false = sym (zero_test x) ∙ (rw zero_is at c.if-opening.false) in
    rw (t, c.round_away.ensures, c.gain.ensures, scale_is, hundred_is)
