-- Conditions that all hold: those of a list, and one on each element of a list. Assumes nothing.
use Prim.Native.Nat.{ℕ, zero, suc}
use mathlib.Core.Bool.{Bool, true, false, false≢true}
use mathlib.Core.List.{List, [], ◌∷◌, map}
use mathlib.Core.Path.{◌≡◌, refl}
use mathlib.Mathlib.Data.List.Defs.{Forall}
use mathlib.Mathlib.Data.List.Basic.{Forall-cons}
use lib.ListN.{get_or}
use Rattle.text.specs.Conditions.{all_of, every}

-- a proof of each: `h also k also none_left`
infixr 10 ◌also◌
pub data Each : List Bool → Type 0 where
  none_left : Each []
  ◌also◌ : {b : Bool} {bs : List Bool} → b ≡ true → Each bs → Each (b ∷ bs)

pub sure : {bs : List Bool} → Each bs → all_of bs ≡ true
unfolding all_of
sure none_left = refl
sure (h also k) = rw h (sure k)

-- each g x has f, where what each x has says so
pub every_sure : {A X : Type 0} {P : A → Type 0} (f : X → Bool) (g : A → X) → ((x : A) → P x → f (g x) ≡ true)
    → (xs : List A) → Forall P xs → every f (map g xs) ≡ true
unfolding every
every_sure f g h [] k = refl
every_sure {P = P} f g h (x ∷ xs) k =
    let each = (Forall-cons P x xs).0 k in
    rw (h x each.0) (every_sure f g h xs each.1)

-- where all hold, number i does
pub fact : (bs : List Bool) → all_of bs ≡ true → (i : ℕ) → get_or bs i true ≡ true
unfolding all_of
fact [] e i = refl
fact (true ∷ bs) e zero = refl
fact (true ∷ bs) e (suc i) = fact bs e i
fact (false ∷ bs) e i = absurd (false≢true e)
