-- Texts that lack a byte: the invariant of `lacks`. Assumes nothing.
use mathlib.Core.Path.{◌≡◌, ◌∙◌, refl, sym}
use mathlib.Core.Bool.{Bool, true, false, not, cond, ◌&&◌, ◌||◌}
use mathlib.Core.List.{List, ◌∷◌}
use Prim.Native.Nat.{ℕ, suc, ◌+◌, ◌≤◌, ◌<◌}
use native.Mathlib.Numerals.{add-one}
use native.Mathlib.Omega.{arith}
use lib.Dec.{eqb}
use lib.ListN.{length, get_or, drop, drop_of_length-le}
use lib.Seq.{drop-cons}
use Rattle.text.specs.Text.{has}

-- m is 0 where no x was met up to i, and from there on none may come
pub record Meeting (s : List ℕ) (x m i : ℕ) : Type 0 where
  pub le : i ≤ length s
  pub still : not (has x s) ≡ (eqb m 0 && not (has x (drop i s)))

pub meeting_first : (s : List ℕ) (x : ℕ) → Meeting s x 0 0
meeting_first s x = record { le = omega arith; still = refl }

met_one : (m b x : ℕ) (l : List ℕ) → (eqb m 0 && not (has x (b ∷ l))) ≡ (eqb (cond (eqb b x) 1 m) 0 && not (has x l))
unfolding has
met_one m b x l = go (eqb b x) (eqb m 0) refl
  where
    go : (t z : Bool) → eqb m 0 ≡ z → (z && not (t || has x l)) ≡ (eqb (cond t 1 m) 0 && not (has x l))
    go true true e = refl
    go true false e = refl
    go false z e = rw e

module _ {s : List ℕ} {x m i : ℕ} (c : Meeting s x m i) where
  pub meeting_more : i < length s → {r : ℕ} → r ≡ cond (eqb (get_or s i 0) x) 1 m → Meeting s x r (i + 1)
  meeting_more h e = record { le = omega arith; still = c.still ∙ rw (e, add-one, drop-cons s i 0 h) (met_one m (get_or s i 0) x (drop (suc i) s)) }

  pub meeting_last : length s ≤ i → eqb m 0 ≡ not (has x s)
  unfolding has
  meeting_last h = sym (c.still ∙ rw (drop_of_length-le s h) (go (eqb m 0)))
    where
      go : (b : Bool) → (b && true) ≡ b
      go true = refl
      go false = refl
