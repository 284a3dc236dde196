-- A double's bits are read back as the double, and only a NaN's bits are not read. Assumes nothing.
use Rattle.std.specs.Prelude.{Option, Some, None}
use Prim.Native.Nat.{ℕ, ◌<◌, ◌^◌}
use mathlib.Core.Path.{◌≡◌, refl, sym, ap, ◌∙◌}
use mathlib.Core.Bool.{Bool, true, false, not, cond, false≢true}
use lib.Dec.{T}
use lib.Ieee.{Float, nan, inf, fin, binary64, is_nan, fits, to_bits, of_bits, nan_bits, div}
use lib.Ieee.Bits.{of_bits-to_bits, to_bits-lt, nan_bits_is, is_false}
use Rattle.le.specs.Real.{real_of}

pub real_back : (x : Float) → T (fits binary64 x) → T (not (is_nan x)) → real_of (to_bits binary64 x) ≡ Some x
unfolding real_of
real_back x f n = rw (nan_bits_is binary64 (to_bits binary64 x), of_bits-to_bits binary64 x f, is_false (is_nan x) n)

pub bits_lt : (x : Float) → T (fits binary64 x) → to_bits binary64 x < 2 ^ 64
bits_lt x f = to_bits-lt binary64 x f

pub real_nan : (n : ℕ) → (nan_bits binary64 n ≡ true → real_of n ≡ None) × (real_of n ≡ None → nan_bits binary64 n ≡ true)
unfolding real_of
real_nan n = ((λ h. rw h), go (nan_bits binary64 n))
  where
    none : Option Float → Bool
    none (Some x) = false
    none None = true

    go : (t : Bool) → cond t None (Some (of_bits binary64 n)) ≡ None → t ≡ true
    go true e = refl
    go false e = ap none e

-- ---- what bits hold

-- a double
pub value-is : (n : ℕ) {x : Float} → real_of n ≡ Some x → x ≡ of_bits binary64 n
unfolding real_of
value-is n {x} e = go (nan_bits binary64 n) e
  where
    held : Option Float → Float
    held (Some y) = y
    held None = of_bits binary64 n

    go : (t : Bool) → cond t None (Some (of_bits binary64 n)) ≡ Some x → x ≡ of_bits binary64 n
    go true e = sym (ap held e)
    go false e = sym (ap held e)

zeros : div binary64 (of_bits binary64 0) (of_bits binary64 0) ≡ nan
unfolding of_bits div
zeros = refl

only_nan : (x : Float) → is_nan x ≡ true → nan ≡ x
unfolding is_nan
only_nan nan h = refl
only_nan (inf s) h = absurd (false≢true h)
only_nan (fin s m e) h = absurd (false≢true h)

-- a NaN's bits give the NaN that 0 / 0 gives
pub nan_is : (n : ℕ) → real_of n ≡ None → div binary64 (of_bits binary64 0) (of_bits binary64 0) ≡ of_bits binary64 n
nan_is n e = zeros ∙ only_nan (of_bits binary64 n) (sym (nan_bits_is binary64 n) ∙ (real_nan n).1 e)
