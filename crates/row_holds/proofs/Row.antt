-- The row of a hold by its parts. Assumes nothing.
use mathlib.Core.Path.{◌≡◌, ◌∙◌, refl, ap, ap₂}
use lib.IntN.{ℤ}
use mir.Syntax.{w32}
use Rattle.le.proofs.Signs.{back}
use Rattle.bar.specs.Bar.{local_of}
use Rattle.bar.specs.declared.LocalTime.{LocalTime}
use Rattle.position.specs.State.{pos_sign}
use Rattle.position.specs.Rows.{hold_row}
use Rattle.position.specs.declared.Pos.{Pos}
use Rattle.position.specs.declared.Pos.TheVariants.{Short, Flat, Long}
use Rattle.position.specs.declared.Hold.{Hold}

-- a sign is read back as it was
sign_back : (p : Pos) → back w32 (pos_sign p) ≡ pos_sign p
sign_back Short = refl
sign_back Flat = refl
sign_back Long = refl

pub row_is : (o : Hold) (l : LocalTime) (z : ℤ) → l ≡ local_of o.time → z ≡ pos_sign o.pos
    → record { local = l; pos = back w32 z; price = o.price; n1b = o.n1b } ≡ hold_row o
unfolding hold_row
row_is o l z e f = ap₂ (λ (t : LocalTime) (s : ℤ). record { local = t; pos = s; price = o.price; n1b = o.n1b }) e (ap (back w32) f ∙ sign_back o.pos)
