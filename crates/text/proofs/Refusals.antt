-- Readings that never refuse with 0, so that 0 is said only where something is got; `search loud` proves it of most. Assumes nothing.
use Prim.Native.Nat.{ℕ, zero, suc}
use mathlib.Core.Bool.{Bool, true, false}
use mathlib.Core.List.{List, [], ◌∷◌}
use Rattle.std.specs.Prelude.{Option, None, Some}
use lib.Dec.{T, ltb}
use Rattle.text.specs.Answer.{Answer, Refused, Got, ◌>>=◌, must, given}
use Rattle.text.specs.Text.{split, each_line, pipe}

-- refused with a number that is not 0, or got with P
pub data Gives {X : Type 0} (P : X → Type 0) : Answer X → Type 0 where
  refuses : {n : ℕ} → Gives P (Refused (suc n))
  gives : {x : X} → P x → Gives P (Got x)

-- where nothing more is said of what is got
abbrev pub Any : {X : Type 0} → X → Type 0
Any x = Unit {0}

pub must_gives : (n : ℕ) (t : Bool) → T (ltb 0 n) → Gives Any (must n t)
must_gives zero t h = absurd h
must_gives (suc n) true h = gives tt
must_gives (suc n) false h = refuses

pub given_gives : {X : Type 0} (n : ℕ) (o : Option X) → T (ltb 0 n) → Gives Any (given n o)
given_gives zero o h = absurd h
given_gives (suc n) None h = refuses
given_gives (suc n) (Some x) h = gives tt

pub got_gives : {X : Type 0} (x : X) → Gives Any (Got x)
got_gives x = gives tt

pub then_with : {X Y : Type 0} {Q : X → Type 0} {P : Y → Type 0} {a : Answer X} {k : X → Answer Y} → Gives Q a → ((x : X) → Q x → Gives P (k x))
    → Gives P (a >>= k)
then_with refuses f = refuses
then_with (gives {x} q) f = f x q

pub then_gives : {X Y : Type 0} {P : Y → Type 0} {a : Answer X} {k : X → Answer Y} → Gives Any a → ((x : X) → Gives P (k x)) → Gives P (a >>= k)
then_gives g f = then_with g (λ x u. f x)

pub ruleset loud = (must_gives, given_gives, got_gives, then_gives, tt)

pub lines_give : {X : Type 0} (f : X → List (List ℕ) → Answer X) → ((x : X) (fields : List (List ℕ)) → Gives Any (f x fields)) → (x : X) (ps : List (List ℕ))
    → Gives Any (each_line f x ps)
unfolding each_line
lines_give f h x [] = gives tt
lines_give f h x ([] ∷ []) = gives tt
lines_give f h x ((b ∷ p) ∷ []) = refuses
lines_give f h x (p ∷ q ∷ ps) = then_gives (h x (split pipe p)) (λ y. lines_give f h y (q ∷ ps))
