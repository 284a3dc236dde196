-- No yield of finite prices is a NaN, nor are days. Assumes nothing.
use Prim.Native.Nat.{ℕ, zero, suc, ◌+◌, ◌-◌, ◌*◌, ◌<◌}
use mathlib.Core.Path.{◌≡◌, refl, sym, subst}
use mathlib.Core.Bool.{Bool, true, false, not, ◌&&◌, ◌||◌, beq, cond}
use lib.Dec.{T, ltb, ltb→lt, eqb-suc-zero}
use native.Mathlib.Omega.{arith}
use lib.Ieee.{Float, Format, nan, inf, fin, binary64, is_nan, round, sum, add, sub, mul, div, neg, lt, up, down, unlike, of_int}
use lib.IntN.{ℤ, pos, negsuc}
use lib.Ieee.Scale.{finite}
use Rattle.double.specs.declared.Yield.TheVariants.{Absent, Bp}
use Rattle.double.specs.declared.Side.{Side}
use Rattle.double.specs.declared.Side.TheVariants.{Long, Short}
use Rattle.double.specs.Double.{whole, ◌−◌, ◌×ᶠ◌, ◌÷◌, is_zero, half, round_away, gain, hold_yield, pair_yield, yield_ok, days_of}
use Rattle.double.proofs.Branches.{both}
use Rattle.double.proofs.Signs.{Signed, round_signed}

abbrev Number : Float → Type 0
Number x = T (not (is_nan x))

-- ---- what is rounded is a number

signed-number : (s : Bool) (x : Float) → Signed s x → Number x
unfolding is_nan
signed-number s nan h = h
signed-number s (inf t) h = tt
signed-number s (fin t m e) h = tt

round_number : (f : Format) (s : Bool) (a b : ℕ) → Number (round f s a b)
round_number f s a b = signed-number s (round f s a b) (round_signed f s a b)

sum_number : (f : Format) (s : Bool) (a : ℕ) (t : Bool) (b c : ℕ) → Number (sum f s a t b c)
unfolding sum
sum_number f s a t b c =
    let r = round f s (a + b) c in
    let u = round f t (b - a) c in
    let v = round f (s && ltb b a) (a - b) c in
    both Number (beq s t) r (cond (ltb a b) u v) (round_number f s (a + b) c) (both Number (ltb a b) u v (round_number f t (b - a) c) (round_number f (s && ltb b a) (a - b) c))

-- ---- each operation

div_number : (x y : Float) → Number x → Number y → is_zero y ≡ false → T (finite x || finite y) → Number (x ÷ y)
unfolding div is_nan
div_number nan y p q z h = absurd p
div_number (inf s) nan p q z h = absurd q
div_number (inf s) (inf t) p q z h = absurd h
div_number (inf s) (fin t n d) p q z h = tt
div_number (fin s m e) nan p q z h = absurd q
div_number (fin s m e) (inf t) p q z h = tt
div_number (fin s m e) (fin t n d) p q z h = rw z (round_number binary64 (unlike s t) (m * up e * down d) (n * up d * down e))

sub_number : (x y : Float) → Number x → Number y → T (finite x || finite y) → Number (x − y)
unfolding sub add neg is_nan
sub_number nan y p q h = absurd p
sub_number (inf s) nan p q h = absurd q
sub_number (inf s) (inf t) p q h = absurd h
sub_number (inf s) (fin t n d) p q h = tt
sub_number (fin s m e) nan p q h = absurd q
sub_number (fin s m e) (inf t) p q h = tt
sub_number (fin s m e) (fin t n d) p q h = sum_number binary64 s (m * up e * down d) (not t) (n * up d * down e) (down e * down d)

mul_number : (x y : Float) → Number x → T (finite y) → is_zero y ≡ false → Number (x ×ᶠ y)
unfolding mul is_nan
mul_number nan y p f z = absurd p
mul_number (inf s) nan p f z = absurd f
mul_number (inf s) (inf t) p f z = absurd f
mul_number (inf s) (fin t n d) p f z = rw z tt
mul_number (fin s m e) nan p f z = absurd f
mul_number (fin s m e) (inf t) p f z = absurd f
mul_number (fin s m e) (fin t n d) p f z = round_number binary64 (unlike s t) (m * up e * (n * up d)) (down e * down d)

away_number : (x : Float) → Number x → Number (round_away x)
unfolding round_away is_nan
away_number nan p = absurd p
away_number (inf s) p = tt
away_number (fin s m e) p = round_number binary64 s (half (m * up e) (down e)) 1

-- ---- prices and yields

finite_number : (x : Float) → T (finite x) → Number x
unfolding is_nan
finite_number nan f = absurd f
finite_number (inf s) f = absurd f
finite_number (fin s m e) f = tt

above : (y : Float) → T (lt (whole 0) y) → Number y × (is_zero y ≡ false)
unfolding lt of_int is_nan
above nan h = absurd h
above (inf t) h = (tt, refl)
above (fin true n d) h = absurd h
above (fin false zero d) h = absurd (no (up d) (down d) (ltb→lt (0 * 1 * down d) (0 * up d * 1) h))
  where
    no : (a b : ℕ) → 0 * 1 * b < 0 * a * 1 → ⊥
    no a b h = omega arith
above (fin false (suc n) d) h = (tt, eqb-suc-zero n)

or_left : (a b : Bool) → T a → T (a || b)
or_left true b t = tt
or_left false b t = elim t [ ]

or_right : (a b : Bool) → T b → T (a || b)
or_right true b t = tt
or_right false b t = t

gain-number : (side : Side) (p q : Float) → T (finite p) → Number q → is_zero q ≡ false → Number (gain side p q)
unfolding gain of_int
gain-number side p q f n z = go side (div_number p q (finite_number p f) n z (or_left (finite p) (finite q) f))
  where
    go : (side : Side) → Number (p ÷ q) → Number (gain side p q)
    go Long d = sub_number (p ÷ q) (whole 1) d (finite_number (whole 1) tt) (or_right (finite (p ÷ q)) (finite (whole 1)) tt)
    go Short d = sub_number (whole 1) (p ÷ q) (finite_number (whole 1) tt) d tt

-- a stored hold yield
pub hold_number : (own next : Float) → T (finite next) → T (yield_ok (hold_yield own next))
unfolding hold_yield of_int
hold_number own next f = go (lt (whole 0) own) refl
  where
    go : (t : Bool) → lt (whole 0) own ≡ t → T (yield_ok (cond t (Bp (gain Long next own ×ᶠ whole 10000)) Absent))
    go true e =
        let a = above own (subst T (sym e) tt) in
        mul_number (gain Long next own) (whole 10000) (gain-number Long next own f a.0 a.1) tt refl
    go false e = tt

-- a pair's yield
pub pair_number : (side : Side) (opening closing : Float) → T (finite opening) → T (finite closing) → T (yield_ok (pair_yield side opening closing))
unfolding pair_yield of_int
pair_number side opening closing f g = go (is_zero opening) refl
  where
    go : (t : Bool) → is_zero opening ≡ t → T (yield_ok (cond t Absent (Bp (round_away (gain side closing opening ×ᶠ whole 10000 ×ᶠ whole 100) ÷ whole 100))))
    go true e = tt
    go false e =
        let x = gain side closing opening in
        let n = mul_number x (whole 10000) (gain-number side closing opening g (finite_number opening f) e) tt refl in
        let r = round_away (x ×ᶠ whole 10000 ×ᶠ whole 100) in
        div_number r (whole 100) (away_number (x ×ᶠ whole 10000 ×ᶠ whole 100) (mul_number (x ×ᶠ whole 10000) (whole 100) n tt refl)) (finite_number (whole 100) tt) refl (or_right (finite r) (finite (whole 100)) tt)

-- a pair's days
int_number : (z : ℤ) → Number (of_int binary64 z)
unfolding of_int
int_number (pos n) = round_number binary64 false n 1
int_number (negsuc n) = round_number binary64 true (suc n) 1

pub days-number : (z : ℤ) → T (not (is_nan (days_of z)))
unfolding days_of of_int
days-number z = div_number (of_int binary64 z) (whole 86400) (int_number z) (finite_number (whole 86400) tt) refl (or_right (finite (of_int binary64 z)) (finite (whole 86400)) tt)
