-- What is rounded keeps its sign, so it is no NaN. Assumes nothing.
use Prim.Native.Nat.{ℕ, zero, suc, ◌+◌, ◌*◌, ◌^◌}
use mathlib.Core.Bool.{Bool}
use mathlib.Core.Path.{◌≡◌, refl, sym, subst}
use lib.Dec.{ltb}
use lib.Ieee.{Float, Format, nan, inf, fin, prec, emax, low, odd, units, round}
use lib.Ieee.Fits.{round_is}
use Rattle.double.proofs.Branches.{both}

-- a number, of the sign s
abbrev pub Signed : Bool → Float → Type 0
Signed s nan = ⊥
Signed s (inf t) = t ≡ s
Signed s (fin t m e) = t ≡ s

odd_signed : (d : ℕ) (s : Bool) (q k l : ℕ) → Signed s (odd d s q k l)
unfolding odd
odd_signed d s zero k l = refl
odd_signed d s (suc q) k l = refl

units_signed : (f : Format) (s : Bool) (q k : ℕ) → Signed s (units f s q k)
unfolding units
units_signed f s q k = both (Signed s) (ltb (q * 2 ^ k) (2 ^ (low f + suc (emax f)))) (odd (suc (prec f)) s q k (low f)) (inf s) (odd_signed (suc (prec f)) s q k (low f)) refl

pub round_signed : (f : Format) (s : Bool) (a b : ℕ) → Signed s (round f s a b)
round_signed f s a b = subst (Signed s) (sym (round_is f s a b)) (units_signed f s _ _)
