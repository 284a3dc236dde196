-- What can be written: doubles that are numbers. Assumes nothing.
use Rattle.std.specs.Prelude.{◌≡◌, true}
use Rattle.std.specs.Float.Ieee.Scale.{finite}
use Rattle.double.specs.Double.{yield_ok}
use Rattle.position.specs.declared.Hold.{Hold}

-- the price is finite, and a yield is no NaN
pub record HoldNumbers (o : Hold) : Type 0 where
  pub price : finite o.price ≡ true
  pub n1b : yield_ok o.n1b ≡ true
