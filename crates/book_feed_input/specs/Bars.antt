-- What the code's answer of reading a bar means. Assumes nothing.
use Rattle.std.specs.Prelude.{◌≡◌, true, ℤ, Float, Option, Some, None}
use Rattle.std.specs.Float.Ieee.Scale.{finite}
use Rattle.text.specs.Answer.{Answer, Refused, Got}
use Rattle.bar.specs.Bar.{time_ok, bar_of}
use Rattle.bar.specs.declared.Bar.{Bar}

-- the number and the bar of each answer
abbrev pub bar_read_of : Option Bar → Answer Bar
bar_read_of (Some b) = Got b
bar_read_of None = Refused 11

-- a bar's time and price are in range
abbrev pub InRange : Option Bar → Type 0
InRange (Some b) = (time_ok b.time ≡ true) × (finite b.price ≡ true)
InRange None = Unit {0}

-- r is what the four numbers say
pub record BarAs (id instant offset : ℤ) (price : Float) (r : Option Bar) : Type 0 where
  pub is : bar_read_of r ≡ bar_of id instant offset price
  pub ok : InRange r
