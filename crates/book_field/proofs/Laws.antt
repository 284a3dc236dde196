-- Fields written one behind another, and what the code of a field gives. Assumes nothing.
use Rattle.std.specs.Prelude.{Option, None, Some}
use Rattle.std.specs.Option.{unwrap_or}
use Prim.Native.Nat.{ℕ, ◌+◌, ◌≤◌}
use native.Mathlib.Omega.{arith}
use mathlib.Core.Path.{◌≡◌, ◌∙◌, refl, sym, ap, subst}
use mathlib.Core.Bool.{true, not, false≢true}
use mathlib.Core.List.{List, ◌++◌}
use lib.Ieee.{Float, binary64, of_bits, div, nan, inf, fin, is_nan}
use lib.Ieee.Scale.{finite}
use lib.Dec.{T}
use lib.IntN.{ℤ}
use lib.ListN.{length}
use mir.Syntax.{w32}
use mir.Facts.{to_z-of_z}
use Rattle.le.specs.Le.{patch, le_bytes}
use Rattle.le.specs.Real.{real_of}
use Rattle.le.proofs.Signs.{back}
use Rattle.le.proofs.Reals.{value-is, nan_is}
use Rattle.text.specs.Read.{Put}
use Rattle.text.proofs.Put.{put-patch, put-put}
use Rattle.bar.specs.Time.{local_time}
use Rattle.bar.specs.Bar.{time_ok, local_of}
use Rattle.bar.specs.declared.Time.{Time}
use Rattle.bar.specs.declared.LocalTime.{LocalTime}
use Rattle.book.specs.Layout.{time_bytes}
use Rattle.book.proofs.Ranges.{time_in}

-- ---- writing

pub time-length : (t : Time) → length (time_bytes t) ≡ 12
unfolding le_bytes
time-length t = refl

-- Fields one behind another are one patch of their bytes joined: the first, of k bytes, and one more of k bytes behind those up to r.
-- `.written` gives the patch, `.kept` that the length is kept.
pub put_first : {l m xs : List ℕ} {at : ℕ} (k : ℕ) → m ≡ patch l at xs → length xs ≡ k → at + k ≤ length l → Put l m at xs (at + k)
put_first {l} {m} {xs} {at} k w e h = subst (λ (n : ℕ). Put l m at xs (at + n)) e (put-patch w (omega (arith, e)))

pub put_next : {l m n xs : List ℕ} {at r p : ℕ} (k : ℕ) (ys : List ℕ) → Put l m at xs r → n ≡ patch m p ys → length ys ≡ k → r ≡ p → p + k ≤ length l
    → Put l n at (xs ++ ys) (p + k)
put_next {l} {m} {n} {xs} {at} {r} {p} k ys a w e s h = put-put (subst (Put l m at xs) s a) (put_first k w e (omega (arith, a.kept)))

-- a finite double is no NaN
pub not_nan : (x : Float) → finite x ≡ true → T (not (is_nan x))
unfolding is_nan
not_nan nan h = absurd (false≢true h)
not_nan (inf s) h = tt
not_nan (fin s m e) h = tt

-- ---- reading

-- a double by its bits, where what is no number is a NaN
pub or_nan : (n : ℕ) (r : Option Float) → r ≡ real_of n → unwrap_or r nan ≡ of_bits binary64 n
unfolding of_bits div
or_nan n (Some x) e = value-is n (sym e)
or_nan n None e = nan_is n (sym e)

-- ---- times

-- an offset in range is read back as it was
pub local_back : (t : Time) {l : LocalTime} → time_ok t ≡ true → l.0 ≡ local_time t.instant.0 (back w32 t.offset) → l ≡ local_of t
local_back t h e =
    ap (λ (z : ℤ). record { 0 = z }) (e ∙ ap (local_time t.instant.0) (to_z-of_z {w = w32} (record { sfits = (time_in t h).offset })))
