-- Numbered rows: a list's first elements, a condition on each row, and spans that follow each other. Assumes nothing.
use Prim.Native.Nat.{ℕ, zero, suc, ◌+◌, ◌<◌, ◌≤◌}
use native.Mathlib.Omega.{arith}
use native.Mathlib.Decide.{dec_lt}
use mathlib.Core.Bool.{Bool, true}
use mathlib.Core.List.{List, [], ◌∷◌, ◌++◌}
use mathlib.Core.Path.{◌≡◌, refl, sym, ap, subst, ◌∙◌}
use borrow.Author.Tests.{eq-eqb}
use lib.ListN.{length, get_or, take, drop, drop_of_length-le}
use lib.Seq.{take-suc}
use Rattle.list.specs.Numbered.{numbered}
use Rattle.list.proofs.Laws.{numbered-length, numbered-at, numbered_next}
use Rattle.text.specs.Conditions.{every}
use Rattle.text.proofs.Every.{cons_every, every-below, every_append}
use Rattle.table.specs.Table.{follow}

-- ---- the first n of a list

pub numbered-take : (l : List ℕ) (n : ℕ) → n ≤ length l → numbered (λ i. get_or l i 0) n ≡ take n l
unfolding numbered
numbered-take l zero h = refl
numbered-take l (suc n) h = ap (λ (xs : List ℕ). xs ++ get_or l n 0 ∷ []) (numbered-take l n (omega arith)) ∙ sym (take-suc l n 0 h)

-- ---- a condition on each

module _ {X : Type 0} (f : X → Bool) where
  pub numbered-every : (g : ℕ → X) (n : ℕ) → ((i : ℕ) → i < n → f (g i) ≡ true) → every f (numbered g n) ≡ true
  unfolding numbered every
  numbered-every g zero h = refl
  numbered-every g (suc n) h =
      every_append f (numbered g n) (g n ∷ []) (numbered-every g n (λ i k. h i (omega arith))) (cons_every f (g n) [] (h n (omega arith)) refl)

  pub every-numbered : (g : ℕ → X) (n : ℕ) → every f (numbered g n) ≡ true → (i : ℕ) → i < n → f (g i) ≡ true
  every-numbered g n e i h =
      subst (λ x. f x ≡ true) (numbered-at g n i (g i) h) (every-below f (g i) (numbered g n) e i (omega (arith, numbered-length g n)))

-- ---- spans that follow each other: row i stands from p i to p (suc i)

module _ {X : Type 0} (at len : X → ℕ) (g : ℕ → X) (n : ℕ) (p : ℕ → ℕ) where
  follow-from : ((i : ℕ) → i < n → at (g i) ≡ p i) → ((i : ℕ) → i < n → p (suc i) ≡ p i + len (g i)) → (left i : ℕ) → i + left ≡ n
      → follow at len (p i) (p n) (drop i (numbered g n)) ≡ true
  unfolding follow
  follow-from s t zero i e =
      let z : i ≡ n = omega arith in
      rw (drop_of_length-le (numbered g n) {i = i} (omega (arith, numbered-length g n, z))) (eq-eqb (p i) (p n) (ap p z))
  follow-from s t (suc left) i e =
      let h : i < n = omega arith in
      rw (numbered_next g n i h, eq-eqb (at (g i)) (p i) (s i h), ← t i h) (follow-from s t left (suc i) (omega arith))

  pub follow-numbered : ((i : ℕ) → i < n → at (g i) ≡ p i) → ((i : ℕ) → i < n → p (suc i) ≡ p i + len (g i))
      → follow at len (p 0) (p n) (numbered g n) ≡ true
  follow-numbered s t = follow-from s t n 0 (omega arith)

-- a span ends where the last one ends, or before
pub sum-end : (p len : ℕ → ℕ) (n : ℕ) → ((i : ℕ) → i < n → p (suc i) ≡ p i + len i) → (i : ℕ) → i < n → p i + len i ≤ p n
sum-end p len zero t i h = absurd (omega arith)
sum-end p len (suc n) t i h = elim (dec_lt i n) [
  | yes l ↦ omega (arith, sum-end p len n (λ j k. t j (omega arith)) i l, t n (omega arith))
  | no l ↦ let e : i ≡ n = omega arith in rw e (omega (arith, t n (omega arith)))
]
