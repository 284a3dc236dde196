-- What a reading gives: the test that it passed, the value that was there. Assumes nothing.
use Prim.Native.Nat.{ℕ, zero, suc}
use mathlib.Core.Bool.{Bool, true, false, cond, false≢true}
use Rattle.std.specs.Prelude.{Option, None, Some}
use mathlib.Core.Path.{◌≡◌, refl, subst}
use lib.Dec.{T, ltb}
use Rattle.text.specs.Answer.{Answer, Got, must, given}
use Rattle.text.proofs.Answers.{got_same}
use Rattle.text.proofs.Refusals.{Gives, refuses, gives}

-- behind a test, it holds
pub must_test : (n : ℕ) (t : Bool) → T (ltb 0 n) → Gives (λ _. t ≡ true) (must n t)
must_test zero t h = absurd h
must_test (suc n) true h = gives refl
must_test (suc n) false h = refuses

pub given_some : {X : Type 0} (n : ℕ) (o : Option X) → T (ltb 0 n) → Gives (λ x. o ≡ Some x) (given n o)
given_some zero o h = absurd h
given_some (suc n) None h = refuses
given_some (suc n) (Some x) h = gives refl

-- one of two readings
pub either_gives : {X : Type 0} {P : X → Type 0} (t : Bool) {a b : Answer X} → Gives P a → Gives P b → Gives P (cond t a b)
either_gives true g h = g
either_gives false g h = h

-- what follows from what is given
pub gives_also : {X : Type 0} {P Q : X → Type 0} {a : Answer X} → Gives P a → ((x : X) → P x → Q x) → Gives Q a
gives_also refuses f = refuses
gives_also (gives {x} p) f = gives (f x p)

-- so what was got has what the reading gives
pub got_has : {X : Type 0} {P : X → Type 0} {a : Answer X} (x : X) → Gives P a → a ≡ Got x → P x
got_has x (refuses {n}) e = absurd (false≢true cc)
got_has {P = P} x (gives {x = y} p) e = subst P (got_same y x e) p
