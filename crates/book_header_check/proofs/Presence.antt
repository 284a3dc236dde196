-- What is asked of a reference that is present. Assumes nothing.
use Prim.Native.Nat.{ℕ, zero, suc}
use mathlib.Core.Bool.{Bool, true, false, ◌&&◌, ◌||◌}
use mathlib.Core.List.{List, [], ◌∷◌}
use mathlib.Core.Logic.{◌≢◌}
use mathlib.Core.Path.{◌≡◌, refl, ◌∙◌}
use lib.Dec.{leb, eqb}
use lib.Signed.{le_z}
use lib.Ieee.Scale.{finite}
use lib.ListN.{get_or}
use Rattle.le.specs.Field.{u8, u32, i64, f64}
use Rattle.text.specs.Conditions.{all_of}
use Rattle.operate.specs.Operate.{LO, SO}
use Rattle.bar.specs.Bar.{last_id, time_ok}
use Rattle.book.specs.Layout.{time_at}
use Rattle.book.specs.Check.{open_ok, reference_ok}
use Rattle.text.proofs.Tested.{broken}

five : (p q r s t : Bool) → all_of (p ∷ q ∷ r ∷ s ∷ t ∷ []) ≡ (p && q && r && s && t)
unfolding all_of
five false q r s t = refl
five true false r s t = refl
five true true false s t = refl
five true true true false t = refl
five true true true true false = refl
five true true true true true = refl

-- what is asked of it
abbrev pub present_asked : List ℕ → List Bool
present_asked b =
    (eqb (u8 b 29) LO || eqb (u8 b 29) SO) ∷ leb (u32 b 68) last_id ∷ time_ok (time_at b 72 80) ∷ le_z (i64 b 72) (i64 b 32) ∷ finite (f64 b 88) ∷ []

pub present_is : (b : List ℕ) → all_of (present_asked b) ≡ reference_ok b 1
present_is b = five _ _ _ _ _
