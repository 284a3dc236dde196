-- What every call keeps: a book, and an image that a save wrote, is that of the plain machine after its past, where that is known.
-- Assumes nothing.
use Prim.Native.Nat.{ℕ, zero, suc}
use mathlib.Core.Bool.{Bool, true, false, cond}
use mathlib.Core.List.{List, [], ◌∷◌}
use mathlib.Core.Path.{◌≡◌, refl, sym, subst}
use mathlib.Mathlib.Data.List.Defs.{Forall}
use mathlib.Mathlib.Data.List.Basic.{Forall-cons}
use Rattle.text.specs.Text.{same}
use Rattle.text.proofs.Same.{same_eq}
use Rattle.sheet.specs.Sheet.{Sheet}
use Rattle.position.specs.State.{State}
use Rattle.position.specs.Step.{plain}
use Rattle.position_laws.proofs.Sound.{Sound}
use Rattle.book.specs.Layout.{encode}
use Rattle.history.specs.Survivors.{Past, Unknown, Known, Saved, Ledger, saved_as}
use Rattle.book.proofs.Passes.{Room}

-- the bytes are a book of the state, which bars can reach
pub record BookOf (s : Sheet) (st : State) (b : List ℕ) : Type 0 where
  pub bars : ℕ
  pub state : b ≡ encode bars st
  pub sound : Sound s st
  pub room : Room s bars st

abbrev pub Follows : Sheet → Past → List ℕ → Type 0
Follows s Unknown b = Unit {0}
Follows s (Known fs) b = BookOf s (plain s fs) b

abbrev pub SavedRight : Sheet → Saved → Type 0
SavedRight s v = Follows s v.past v.image

pub record Good (s : Sheet) (l : Ledger) (b : List ℕ) : Type 0 where
  pub book : Follows s l.past b
  pub saves : Forall (SavedRight s) l.saves

-- an image follows the past that save number k with its bytes had
pub saved_follows : (s : Sheet) (k : ℕ) (image : List ℕ) (vs : List Saved) → Forall (SavedRight s) vs → Follows s (saved_as k image vs) image
unfolding saved_as
saved_follows s k image [] h = tt
saved_follows s zero image (v ∷ vs) h = go (same image v.image) refl ((Forall-cons (SavedRight s) v vs).0 h).0
  where
    go : (t : Bool) → same image v.image ≡ t → SavedRight s v → Follows s (cond t v.past Unknown) image
    go true e here = subst (Follows s v.past) (sym (same_eq image v.image e)) here
    go false e here = tt
saved_follows s (suc k) image (v ∷ vs) h = saved_follows s k image vs ((Forall-cons (SavedRight s) v vs).0 h).1
