-- A price against itself never hits a stop: price/price - 1 is 0 or NaN, and -stop/10000 is not above 0. Assumes nothing.
use Prim.Native.Nat.{ℕ, zero, suc, ◌*◌}
use native.Mathlib.Nat.{mul-pos, mul-one, one-mul, zero-lt-suc}
use mathlib.Core.Bool.{Bool, true, false, not}
use mathlib.Core.Path.{◌≡◌, refl, sym, ap, ◌∙◌}
use lib.Dec.{eqb-suc-zero}
use lib.IntN.{ℤ}
use lib.Ieee.{Float, nan, inf, fin, binary64, up, down, round, neg, add, sub, div, lt, of_int}
use lib.Ieee.Fits.{up_pos, down_pos}
use lib.Ieee.Scale.{round_same}
use Rattle.double.specs.Double.{whole, ◌−◌, ◌÷◌, gain, stop_hit}
use Rattle.double.specs.declared.Side.{Side}
use Rattle.double.specs.declared.Side.TheVariants.{Long, Short}
use Rattle.double.proofs.Signs.{Signed, round_signed}

-- ---- what is neither zero nor infinite is 1 by itself, so it gains 0 over itself

same_ratio : (m : ℕ) (e : ℤ) → round binary64 false (suc m * up e * down e) (suc m * up e * down e) ≡ whole 1
unfolding of_int
same_ratio m e =
    let n = suc m * up e * down e in
    round_same binary64 false n n 1 1 (mul-pos (mul-pos (zero-lt-suc m) (up_pos e)) (down_pos e)) (zero-lt-suc 0) (mul-one n ∙ sym (one-mul n))

own_ratio : (s : Bool) (m : ℕ) (e : ℤ) → fin s (suc m) e ÷ fin s (suc m) e ≡ whole 1
unfolding div
own_ratio true m e = rw (eqb-suc-zero m) (same_ratio m e)
own_ratio false m e = rw (eqb-suc-zero m) (same_ratio m e)

own_gain : (side : Side) (s : Bool) (m : ℕ) (e : ℤ) → gain side (fin s (suc m) e) (fin s (suc m) e) ≡ whole 0
unfolding gain sub of_int
own_gain Long s m e = ap (λ (x : Float). x − whole 1) (own_ratio s m e)
own_gain Short s m e = ap (λ (x : Float). whole 1 − x) (own_ratio s m e)

-- ---- the limit is not above 0

neg_signed : (x : Float) → Signed false x → Signed true (neg x)
unfolding neg
neg_signed nan h = h
neg_signed (inf t) h = ap not h
neg_signed (fin t m e) h = ap not h

share_signed : (x : Float) → Signed true x → Signed true (x ÷ whole 10000)
unfolding div of_int
share_signed nan h = h
share_signed (inf t) h = rw h refl
share_signed (fin t m e) h = rw h (round_signed binary64 true (m * up e * 1) (625 * 16 * down e))

limit_signed : (stop : Float) → Signed false stop → Signed true (neg stop ÷ whole 10000)
limit_signed stop h = share_signed (neg stop) (neg_signed stop h)

zero_not_below : (x : Float) → Signed true x → lt (whole 0) x ≡ false
unfolding lt of_int
zero_not_below nan h = refl
zero_not_below (inf t) h = rw h refl
zero_not_below (fin t m e) h = rw h refl

-- ---- so the own price hits nothing

pub own_price : (side : Side) (stop : Float) → Signed false stop → (p : Float) → stop_hit side stop p p ≡ false
unfolding stop_hit gain div sub add neg lt of_int
own_price Long stop h nan = refl
own_price Short stop h nan = refl
own_price Long stop h (inf t) = refl
own_price Short stop h (inf t) = refl
own_price Long stop h (fin t zero e) = refl
own_price Short stop h (fin t zero e) = refl
own_price side stop h (fin t (suc m) e) =
    ap (λ (x : Float). lt x (neg stop ÷ whole 10000)) (own_gain side t m e) ∙ zero_not_below (neg stop ÷ whole 10000) (limit_signed stop h)
