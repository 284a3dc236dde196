-- Entries that agree: any two of one instant and revision are alike, whether they count or not. Assumes nothing.
use Prim.Native.Nat.{ℕ, ◌<◌}
use mathlib.Core.Bool.{Bool, true, false, cond}
use mathlib.Core.List.{List}
use mathlib.Core.Path.{◌≡◌, refl, subst}
use lib.ListN.{length, get_or}
use Rattle.text.specs.Conditions.{every}
use Rattle.text.proofs.Every.{every-below, every_of}
use Rattle.revise.specs.Entries.{Entry}
use Rattle.revise.specs.Chosen.{same_key, alike, agree}

-- entries number i and j, which are alike where they have the same instant and revision
abbrev pub PairAgrees : List Entry → Entry → ℕ → ℕ → Type 0
PairAgrees es d i j = same_key (get_or es i d) (get_or es j d) ≡ true → alike (get_or es i d) (get_or es j d) ≡ true

module _ (es : List Entry) (d : Entry) where
  pub agree-all : agree es ≡ true → (i j : ℕ) → i < length es → j < length es → PairAgrees es d i j
  unfolding agree
  agree-all e i j l k same =
      let row = every-below (λ a. every (λ b. cond (same_key a b) (alike a b) true) es) d es e i l in
      let one = every-below (λ b. cond (same_key (get_or es i d) b) (alike (get_or es i d) b) true) d es row j k in
      subst (λ (t : Bool). cond t (alike (get_or es i d) (get_or es j d)) true ≡ true) same one

  pub all-agree : ((i j : ℕ) → i < length es → j < length es → PairAgrees es d i j) → agree es ≡ true
  unfolding agree
  all-agree h =
      every_of (λ a. every (λ b. cond (same_key a b) (alike a b) true) es) d es
      (λ i l. every_of (λ b. cond (same_key (get_or es i d) b) (alike (get_or es i d) b) true) d es
      (λ j k. go (same_key (get_or es i d) (get_or es j d)) (alike (get_or es i d) (get_or es j d)) (h i j l k)))
    where
      go : (t u : Bool) → (t ≡ true → u ≡ true) → cond t u true ≡ true
      go false u f = refl
      go true u f = f refl
