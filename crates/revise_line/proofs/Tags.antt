-- Two bytes in front of a part, as the code looks at them. Assumes nothing.
use Prim.Native.Nat.{ℕ, ◌+◌, ◌-◌, ◌<◌, ◌≤◌}
use native.Mathlib.Omega.{arith}
use mathlib.Core.Bool.{Bool, true, false, ◌&&◌}
use mathlib.Core.List.{List, [], ◌∷◌}
use mathlib.Core.Logic.{◌≢◌}
use mathlib.Core.Path.{◌≡◌, refl, sym, ◌∙◌}
use borrow.Author.Tests.{eqb-true, eqb-false, eq-eqb, ne_eqb}
use lib.Dec.{eqb}
use lib.ListN.{length, get_or}
use lib.Seq.{slice, length-slice}
use Rattle.text.specs.Read.{Part}
use Rattle.text.specs.Text.{pipe, begins}
use Rattle.text.proofs.Laws.{part_cons}

begins-short : (x y : ℕ) (l : List ℕ) → length l < 2 → begins (x ∷ y ∷ []) l ≡ false
unfolding begins
begins-short x y [] h = refl
begins-short x y (a ∷ []) h = go (eqb x a)
  where
    go : (t : Bool) → (t && false) ≡ false
    go true = refl
    go false = refl
begins-short x y (a ∷ b ∷ l) h = absurd (omega arith)

eqb_swap : (x y : ℕ) → eqb x y ≡ eqb y x
eqb_swap x y = go (eqb x y) refl
  where
    go : (t : Bool) → eqb x y ≡ t → t ≡ eqb y x
    go true h = sym (eq-eqb y x (sym (eqb-true x y h)))
    go false h = sym (ne_eqb y x (λ e. eqb-false x y h (sym e)))

begins-last : (x y a b : ℕ) (l : List ℕ) → a ≡ x → eqb b y ≡ begins (x ∷ y ∷ []) (a ∷ b ∷ l)
unfolding begins
begins-last x y a b l e = rw (eq-eqb x a (sym e)) (eqb_swap b y ∙ go (eqb y b))
  where
    go : (t : Bool) → t ≡ (t && true)
    go true = refl
    go false = refl

module _ {s : List ℕ} {from to : ℕ} (p : Part s from to) (tag : ℕ) where
  pub tag_short : to - from < 2 → false ≡ begins (tag ∷ pipe ∷ []) (slice from to s)
  tag_short h = sym (begins-short tag pipe (slice from to s) (omega (arith, length-slice from to s p.within)))

  module _ (h : 2 ≤ to - from) where
    two : slice from to s ≡ get_or s from 0 ∷ get_or s (from + 1) 0 ∷ slice (from + 1 + 1) to s
    two = part_cons from to s (omega arith) p.within ∙ rw (part_cons (from + 1) to s (omega arith) p.within)

    pub tag_other : get_or s from 0 ≢ tag → false ≡ begins (tag ∷ pipe ∷ []) (slice from to s)
    unfolding begins
    tag_other n = sym (rw (two, begins, ne_eqb tag (get_or s from 0) (λ e. n (sym e))))

    pub tag_first : get_or s from 0 ≡ tag → eqb (get_or s (from + 1) 0) pipe ≡ begins (tag ∷ pipe ∷ []) (slice from to s)
    tag_first e = rw two (begins-last tag pipe (get_or s from 0) (get_or s (from + 1) 0) (slice (from + 1 + 1) to s) e)
