-- Conditions that a text meets exactly when the parts around each separator do. Assumes nothing.
use Prim.Native.Nat.{ℕ, ◌≤◌}
use mathlib.Core.Bool.{Bool, true, false, not, ◌&&◌, ◌||◌}
use mathlib.Core.List.{List, [], ◌∷◌, ◌++◌}
use mathlib.Core.Path.{◌≡◌, refl, sym, ◌∙◌, ap, ap₂}
use lib.Dec.{eqb}
use lib.ListN.{get_or}
use Rattle.text.specs.Conditions.{every}
use Rattle.text.specs.Text.{has, split, joined}
use Rattle.utf8.specs.Utf8.{right, utf8}
use Rattle.utf8.proofs.Joined.{utf8_around}
use Rattle.text.proofs.Every.{every_one, every-and, every-at}
use Rattle.text.proofs.Joined.{lacks, joined-more, joined-split}

-- f holds of a text exactly when it holds in front of a b and behind it
pub record Parted (b : ℕ) (f : List ℕ → Bool) : Type 0 where
  pub none : f [] ≡ true
  pub both : (s t : List ℕ) → f (s ++ b ∷ t) ≡ (f s && f t)

-- ---- the parts of a text

module _ {b : ℕ} {f : List ℕ → Bool} (a : Parted b f) where
  pub joined-every : (ps : List (List ℕ)) → f (joined (b ∷ []) ps) ≡ every f ps
  unfolding joined every
  joined-every [] = a.none
  joined-every (p ∷ []) = sym (every_one f p)
  joined-every (p ∷ q ∷ ps) =
      ap f (joined-more b p q ps) ∙ a.both p (joined (b ∷ []) (q ∷ ps))
      ∙ ap (λ t. f p && t) (joined-every (q ∷ ps)) ∙ sym (every-and f p (q ∷ ps))

  pub split-every : (s : List ℕ) → f s ≡ true → every f (split b s) ≡ true
  split-every s e = sym (joined-every (split b s)) ∙ ap f (joined-split b s) ∙ e

  -- part i, which is empty where there is none
  pub split_at : (s : List ℕ) → f s ≡ true → (i : ℕ) → f (get_or (split b s) i []) ≡ true
  split_at s e i = every-at f [] a.none (split b s) (split-every s e) i

-- ---- UTF-8, and another byte that is missing

pub utf8_parted : (b : ℕ) → b ≤ 0x7f → Parted b utf8
unfolding utf8 right
utf8_parted b ascii = record { none = refl; both = λ s t. utf8_around b ascii t s }

pub lacks_parted : (b c : ℕ) → eqb b c ≡ false → Parted b (lacks c)
unfolding has
lacks_parted b c h = record { none = refl; both = both }
  where
    both : (s t : List ℕ) → lacks c (s ++ b ∷ t) ≡ (lacks c s && lacks c t)
    both [] t = rw h
    both (x ∷ s) t = go (eqb x c) (both s t)
      where
        go : (e : Bool) → lacks c (s ++ b ∷ t) ≡ (lacks c s && lacks c t) → not (e || has c (s ++ b ∷ t)) ≡ (not (e || has c s) && lacks c t)
        go true k = refl
        go false k = k

-- ---- two conditions, and a condition that says the same

and_turn : (p q r s : Bool) → ((p && q) && (r && s)) ≡ ((p && r) && (q && s))
and_turn true true r s = refl
and_turn true false true s = refl
and_turn true false false s = refl
and_turn false q r s = refl

pub two_parted : {b : ℕ} {f g : List ℕ → Bool} → Parted b f → Parted b g → Parted b (λ l. f l && g l)
two_parted {b} {f} {g} h k =
    record {
      none = ap₂ ◌&&◌ h.none k.none;
      both = λ s t. ap₂ ◌&&◌ (h.both s t) (k.both s t) ∙ and_turn (f s) (f t) (g s) (g t);
    }

pub same_parted : {b : ℕ} {f g : List ℕ → Bool} → Parted b f → ((l : List ℕ) → g l ≡ f l) → Parted b g
same_parted {b} h e =
    record {
      none = e [] ∙ h.none;
      both = λ s t. e (s ++ b ∷ t) ∙ h.both s t ∙ sym (ap₂ ◌&&◌ (e s) (e t));
    }
