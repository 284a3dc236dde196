-- What each element of a list has, by its number: of no list, of one more, of numbered elements. Assumes nothing.
use Prim.Native.Nat.{ℕ, zero, suc, ◌<◌}
use native.Mathlib.Omega.{arith}
use mathlib.Core.List.{List, [], ◌∷◌}
use mathlib.Core.Path.{sym, subst}
use Rattle.list.specs.Numbered.{numbered}
use Rattle.list.proofs.Laws.{numbered-length, numbered-at}
use Rattle.table_layout.specs.Fits.{AllAt}

pub all_none : {X : Type 0} (P : X → Type 0) → AllAt P []
all_none P i d h = absurd (omega arith)

pub all_more : {X : Type 0} (P : X → Type 0) (x : X) (xs : List X) → P x → AllAt P xs → AllAt P (x ∷ xs)
all_more P x xs p ps zero d h = p
all_more P x xs p ps (suc i) d h = ps i d (omega arith)

pub all-numbered : {X : Type 0} (P : X → Type 0) (f : ℕ → X) (n : ℕ) → ((i : ℕ) → i < n → P (f i)) → AllAt P (numbered f n)
all-numbered P f n k i d h =
    let l : i < n = omega (arith, numbered-length f n) in
    subst P (sym (numbered-at f n i d l)) (k i l)

-- back: of each of them
pub numbered-all : {X : Type 0} (P : X → Type 0) (f : ℕ → X) (n : ℕ) → AllAt P (numbered f n) → (i : ℕ) → i < n → P (f i)
numbered-all P f n k i h = subst P (numbered-at f n i (f i) h) (k i (f i) (omega (arith, numbered-length f n)))
