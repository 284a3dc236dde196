-- The bar of four numbers, test by test. Assumes nothing.
use Rattle.std.specs.Prelude.{Some, None}
use native.Mathlib.Omega.{arith}
use mathlib.Core.Path.{◌≡◌, refl, sym, ap₂, ◌∙◌, subst}
use mathlib.Core.Bool.{Bool, true, false, ◌&&◌, and-eq-true_iff, false≢true}
use lib.Dec.{T, leb}
use lib.IntN.{ℤ, pos, negsuc, nat_abs}
use lib.Ieee.{Float}
use lib.Ieee.Scale.{finite}
use lib.Signed.{non_neg}
use borrow.Author.Tests.{leb-true}
use mir.Syntax.{w32, w64}
use mir.Val.{Fits, SFits}
use mir.Facts.{to_z-of_z}
use Rattle.le.proofs.Signs.{back}
use Rattle.bar.specs.Bar.{last_id, id_ok, instant_ok, offset_ok, bar_of}
use Rattle.book_feed_input.specs.Bars.{BarAs}

-- ---- the casts

offset_in : (z : ℤ) → true ≡ offset_ok z → SFits w32 z
offset_in (pos n) e = let h = leb-true n 86_399 (sym e) in record { sfits = omega arith }
offset_in (negsuc n) e = let h = leb-true n 86_398 ((and-eq-true_iff (leb n 86_398) true).0 (sym e)).0 in record { sfits = omega arith }

id_in : (z : ℤ) → true ≡ id_ok z → T (non_neg z) × Fits w32 (nat_abs z)
id_in (pos n) e = let h = leb-true n last_id ((and-eq-true_iff (leb 0 n) (leb n last_id)).0 (sym e)).1 in (tt, record { fits = omega arith })
id_in (negsuc n) e = absurd (false≢true (sym e))

-- ---- the answers

-- the tests passed, or one failed
module _ (id instant offset : ℤ) (price : Float) {t : Bool} (told : t ≡ (id_ok id && instant_ok instant && offset_ok offset && finite price)) where
  pub outside : t ≡ false → BarAs id instant offset price None
  unfolding bar_of
  outside e = record { is = rw (← told, e) refl; ok = tt }

  module _ (e : t ≡ true) where
    ranges : (id_ok id ≡ true) × (instant_ok instant ≡ true) × (offset_ok offset ≡ true) × (finite price ≡ true)
    ranges =
        let i = (and-eq-true_iff (id_ok id && instant_ok instant && offset_ok offset) (finite price)).0 (sym told ∙ e) in
        let j = (and-eq-true_iff (id_ok id && instant_ok instant) (offset_ok offset)).0 i.0 in
        let k = (and-eq-true_iff (id_ok id) (instant_ok instant)).0 j.0 in
        (k.0, k.1, j.1, i.1)

    pub inside : SFits w64 id → SFits w64 instant → SFits w64 offset
        → BarAs id instant offset price (Some (record { id = nat_abs (back w64 id); time = record { instant = record { 0 = back w64 instant }; offset = back w32 (back w64 offset) }; price = price }))
    unfolding bar_of
    inside f g h =
        let small : SFits w32 (back w64 offset) = subst (SFits w32) (sym (to_z-of_z h)) (offset_in offset (sym ranges.2)) in
        rw (to_z-of_z f, to_z-of_z g, to_z-of_z small, to_z-of_z h)
        (record { is = rw (← told, e) refl; ok = (ap₂ ◌&&◌ ranges.1 ranges.2, ranges.3) })
