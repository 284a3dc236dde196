-- A reading that is refused with a number or gives a value. Assumes nothing.
use Rattle.std.specs.Prelude.{ℕ, Bool, true, false, Option, None, Some}

pub data Answer (X : Type 0) : Type 0 where
  Refused : ℕ → Answer X
  Got : X → Answer X

-- the first refusal counts: what follows is read only behind what was got
infixl 10 ◌>>=◌
abbrev pub ◌>>=◌ : {X Y : Type 0} → Answer X → (X → Answer Y) → Answer Y
Refused n >>= k = Refused n
Got x >>= k = k x

-- refused with n unless the test holds
abbrev pub must : ℕ → Bool → Answer (Unit {0})
must n true = Got tt
must n false = Refused n

-- refused with n where there is nothing
abbrev pub given : {X : Type 0} → ℕ → Option X → Answer X
given n None = Refused n
given n (Some x) = Got x

-- the number to return: 0 is done
abbrev pub number : {X : Type 0} → Answer X → ℕ
number (Refused n) = n
number (Got x) = 0

-- what was got, or else d: a refusal leaves what was there
abbrev pub got_or : {X : Type 0} → X → Answer X → X
got_or d (Refused n) = d
got_or d (Got x) = x
