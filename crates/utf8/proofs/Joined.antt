-- Texts joined, and taken apart at an ASCII byte. Assumes nothing.
use mathlib.Core.Path.{◌≡◌, ◌∙◌, refl, sym, ap}
use mathlib.Core.List.{List, [], ◌∷◌, ◌++◌}
use mathlib.Core.Bool.{Bool, true, false, cond, ◌&&◌, false≢true, and-eq-true_iff}
use Rattle.std.specs.Prelude.{Option, None, Some}
use Prim.Native.Nat.{ℕ, ◌≤◌}
use native.Mathlib.Omega.{arith}
use borrow.Author.Tests.{leb-true}
use lib.Dec.{leb}
use Rattle.utf8.specs.Utf8.{Range, after, step, right, utf8}
use Rattle.utf8.proofs.Laws.{right-none, after-ascii, below}

-- ---- one text behind another

right_join : (st : Option (List Range)) (s t : List ℕ) → right st s ≡ true → right st (s ++ t) ≡ utf8 t
unfolding right utf8
right_join None [] t e = absurd (false≢true e)
right_join (Some []) [] t e = refl
right_join (Some (r ∷ rs)) [] t e = absurd (false≢true e)
right_join st (b ∷ s) t e = right_join (step st b) s t e

-- behind UTF-8 the rest decides
pub utf8_join : (s t : List ℕ) → utf8 s ≡ true → utf8 (s ++ t) ≡ utf8 t
unfolding utf8
utf8_join s t e = right_join (Some []) s t e

-- ---- an ASCII byte between two texts

-- every byte that is still to come is above ASCII
unfoldable high : Option (List Range) → Bool
high None = true
high (Some []) = true
high (Some (r ∷ rs)) = leb 0x80 r.lo && high (Some rs)

high-cond : (t : Bool) (x y : Option (List Range)) → high (cond t x y) ≡ cond t (high x) (high y)
high-cond true x y = refl
high-cond false x y = refl

cond_same : (t : Bool) → cond t true true ≡ true
cond_same true = refl
cond_same false = refl

high_after : (b : ℕ) → high (after b) ≡ true
unfolding after high
high_after b = simp (high-cond, cond_same)

high-step : (st : Option (List Range)) (b : ℕ) → high st ≡ true → high (step st b) ≡ true
unfolding step high
high-step None b h = refl
high-step (Some []) b h = high_after b
high-step (Some (r ∷ rs)) b h = rw (high-cond, ((and-eq-true_iff (leb 0x80 r.lo) (high (Some rs))).0 h).1, cond_same)

module _ (b : ℕ) (ascii : b ≤ 0x7f) (t : List ℕ) where
  right_around : (st : Option (List Range)) (s : List ℕ) → high st ≡ true → right st (s ++ b ∷ t) ≡ (right st s && utf8 t)
  unfolding right step utf8 high
  right_around None [] h = right-none t
  right_around (Some []) [] h = ap (λ st. right st t) (after-ascii b ascii)
  right_around (Some (r ∷ rs)) [] h =
      let k = leb-true 0x80 r.lo ((and-eq-true_iff _ _).0 h).0 in
      ap (λ x. right (cond x (Some rs) None) t) (below r.lo r.hi b (omega arith)) ∙ right-none t
  right_around st (x ∷ s) h = right_around (step st x) s (high-step st x h)

  -- the whole is UTF-8 exactly when the two parts are
  pub utf8_around : (s : List ℕ) → utf8 (s ++ b ∷ t) ≡ (utf8 s && utf8 t)
  unfolding utf8 high
  utf8_around s = right_around (Some []) s refl

  pub utf8-parts : (s : List ℕ) → utf8 (s ++ b ∷ t) ≡ true → (utf8 s ≡ true) × (utf8 t ≡ true)
  utf8-parts s e = (and-eq-true_iff (utf8 s) (utf8 t)).0 (sym (utf8_around s) ∙ e)
