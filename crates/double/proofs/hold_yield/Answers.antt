-- `double::hold_yield` meets its contract. Assumes nothing.
use mathlib.Core.Path.{◌≡◌}
use mathlib.Core.Bool.{true, false}
use lib.Ieee.{lt}
use Rattle.double.specs.Double.{whole, hold_yield}
use Rattle.double.proofs.Constants.{zero_is, scale_is}
use Rattle.double.proofs.hold_yield.Goals as goal

pub returns-then-own : goal.returns-then-own
unfolding hold_yield
returns-then-own c =
    let t : lt (whole 0) c.args.own ≡ true = rw zero_is at c.if-own.true in
    rw (t, c.gain.ensures, scale_is)

pub returns-else-own : goal.returns-else-own
unfolding hold_yield
returns-else-own c =
    let t : lt (whole 0) c.args.own ≡ false = rw zero_is at c.if-own.false in
    rw t
