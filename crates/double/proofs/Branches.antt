-- What both branches have, the one that a test picks has. Assumes nothing.
use mathlib.Core.Bool.{Bool, true, false, cond}

pub both : {A : Type 0} (P : A → Type 0) (t : Bool) (x y : A) → P x → P y → P (cond t x y)
both P true x y p q = p
both P false x y p q = q
