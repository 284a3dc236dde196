-- Spans that follow each other: none passes the end, and each lies before it. Assumes nothing.
use Prim.Native.Nat.{ℕ, zero, suc, ◌+◌, ◌≤◌, ◌<◌}
use native.Mathlib.Omega.{arith}
use native.Mathlib.Decide.{dec_le}
use mathlib.Core.Bool.{Bool, true, false, cond, false≢true}
use mathlib.Core.List.{List, [], ◌∷◌}
use mathlib.Core.Path.{◌≡◌, refl, sym, ◌∙◌}
use lib.Dec.{eqb}
use lib.ListN.{length, get_or}
use borrow.Author.Tests.{ne_eqb, eqb-true}
use Rattle.table.specs.Table.{follow}

-- both of two conditions
pub both : (a b : Bool) → cond a b false ≡ true → (a ≡ true) × (b ≡ true)
both true b e = (refl, e)
both false b e = absurd (false≢true e)

pub neither : (a : Bool) → cond a false false ≡ false
neither true = refl
neither false = refl

module _ {X : Type 0} (at len : X → ℕ) where
  -- spans that would start behind the end
  pub follow-past : (from to : ℕ) (xs : List X) → to < from → follow at len from to xs ≡ false
  unfolding follow
  follow-past from to [] h = ne_eqb from to (omega arith)
  follow-past from to (x ∷ xs) h = rw (follow-past (from + len x) to xs (omega arith)) (neither (eqb (at x) from))

  follow-starts : (from to : ℕ) (xs : List X) → follow at len from to xs ≡ true → from ≤ to
  follow-starts from to xs e = elim (dec_le from to) [ yes h ↦ h | no h ↦ absurd (false≢true (sym (follow-past from to xs (omega arith)) ∙ e)) ]

  -- span number j
  pub follow-within : (d : X) (from to : ℕ) (xs : List X) → follow at len from to xs ≡ true → (j : ℕ) → j < length xs
      → at (get_or xs j d) + len (get_or xs j d) ≤ to
  unfolding follow
  follow-within d from to [] e j h = absurd (omega arith)
  follow-within d from to (x ∷ xs) e zero h =
      let b = both (eqb (at x) from) (follow at len (from + len x) to xs) e in
      omega (arith, eqb-true (at x) from b.0, follow-starts (from + len x) to xs b.1)
  follow-within d from to (x ∷ xs) e (suc j) h =
      follow-within d (from + len x) to xs (both (eqb (at x) from) (follow at len (from + len x) to xs) e).1 j (omega arith)
