-- Conditions as code tests them: one that fails, and the last where the others hold. Assumes nothing.
use Prim.Native.Nat.{ℕ, zero, suc, ◌≤◌, ◌<◌}
use native.Mathlib.Omega.{arith}
use mathlib.Core.Bool.{Bool, true, false, false≢true}
use mathlib.Core.List.{List, [], ◌∷◌, ◌++◌}
use mathlib.Core.Path.{◌≡◌, refl, sym, ◌∙◌}
use lib.Dec.{leb}
use lib.ListN.{get_or}
use borrow.Author.Tests.{le-leb, lt-leb}
use Rattle.text.specs.Conditions.{all_of}
use Rattle.text.proofs.Conditions.{Each, none_left, ◌also◌}

-- a call's answer x, which is the condition b: as a test found it
pub no : {x b : Bool} → x ≡ b → x ≡ false → b ≡ false
no e h = sym e ∙ h

pub yes : {x b : Bool} → x ≡ b → x ≡ true → b ≡ true
yes e h = sym e ∙ h

-- a number x that was read, which is the field y: against a limit
pub above : {x y k : ℕ} → x ≡ y → k < x → leb y k ≡ false
above {x} {y} {k} e h = lt-leb y k (omega arith)

pub within : {x y k : ℕ} → x ≡ y → x ≤ k → leb y k ≡ true
within {x} {y} {k} e h = le-leb y k (omega arith)

-- condition number i fails
pub broken : (bs : List Bool) (i : ℕ) → get_or bs i true ≡ false → false ≡ all_of bs
unfolding all_of
broken [] i e = absurd (false≢true (sym e))
broken (true ∷ bs) zero e = absurd (false≢true (sym e))
broken (true ∷ bs) (suc i) e = broken bs i e
broken (false ∷ bs) i e = refl

only : (b : Bool) → b ≡ all_of (b ∷ [])
unfolding all_of
only true = refl
only false = refl

-- the last one decides
pub decided : {bs : List Bool} → Each bs → {x b : Bool} → x ≡ b → x ≡ all_of (bs ++ b ∷ [])
unfolding all_of
decided none_left {b = b} e = e ∙ only b
decided (h also k) e = rw h (decided k e)
