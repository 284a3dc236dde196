-- Laws of 1 to n digits: no point is among them, and what they say is small. Assumes nothing.
use Prim.Native.Nat.{ℕ, ◌+◌, ◌*◌, ◌-◌, ◌^◌, ◌<◌}
use native.Mathlib.Nat.{pow-le-pow_right}
use native.Mathlib.Omega.{arith}
use mathlib.Core.Bool.{Bool, true, false, cond, ◌&&◌}
use mathlib.Core.List.{List, [], ◌∷◌}
use mathlib.Core.Path.{◌≡◌, refl}
use Rattle.std.specs.Prelude.{None, Some}
use Rattle.std.proofs.lemmas.Option.{none-some}
use borrow.Author.Tests.{leb-true, ne_eqb}
use lib.Dec.{leb}
use lib.ListN.{length}
use Rattle.text.specs.Number.{digits_behind, natural, digits_to}
use Rattle.text.specs.Text.{point, has}
use Rattle.text_number.proofs.Digits.{digits-none, digits-small}

-- digits have no point among them
digits-plain : (l : List ℕ) (v w : ℕ) → digits_behind (Some v) l ≡ Some w → has point l ≡ false
unfolding digits_behind has
digits-plain [] v w e = refl
digits-plain (x ∷ t) v w e = go (leb 48 x) (leb x 57) refl (digits-plain t (v * 10 + (x - 48)) w) e
  where
    go : (a b : Bool) → leb 48 x ≡ a → (digits_behind (Some (v * 10 + (x - 48))) t ≡ Some w → has point t ≡ false)
        → digits_behind (cond (a && b) (Some (v * 10 + (x - 48))) None) t ≡ Some w → has point (x ∷ t) ≡ false
    go true true h ih k = rw (ne_eqb x 46 (omega (arith, leb-true 48 x h))) (ih k)
    go true false h ih k = absurd (none-some w (cc (digits-none t)))
    go false b h ih k = absurd (none-some w (cc (digits-none t)))

natural-plain : (l : List ℕ) (w : ℕ) → natural l ≡ Some w → has point l ≡ false
unfolding natural
natural-plain [] w e = absurd (none-some w e)
natural-plain (x ∷ l) w e = digits-plain (x ∷ l) 0 w e

pub digits_to-plain : (n : ℕ) (l : List ℕ) (w : ℕ) → digits_to n l ≡ Some w → has point l ≡ false
unfolding digits_to
digits_to-plain n l w e = go (leb (length l) n) e
  where
    go : (t : Bool) → cond t (natural l) None ≡ Some w → has point l ≡ false
    go true k = natural-plain l w k
    go false k = absurd (none-some w k)

natural-small : (l : List ℕ) (w : ℕ) → natural l ≡ Some w → w < 10 ^ length l
unfolding natural
natural-small [] w e = absurd (none-some w e)
natural-small (x ∷ t) w e = omega (arith, digits-small (x ∷ t) 0 w e)

pub digits_to-small : (n : ℕ) (l : List ℕ) (w : ℕ) → digits_to n l ≡ Some w → w < 10 ^ n
unfolding digits_to
digits_to-small n l w e = go (leb (length l) n) refl e
  where
    go : (t : Bool) → leb (length l) n ≡ t → cond t (natural l) None ≡ Some w → w < 10 ^ n
    go true h k = omega (arith, natural-small l w k, pow-le-pow_right {n = 10} (omega arith) {i = length l} {j = n} (leb-true (length l) n h))
    go false h k = absurd (none-some w k)
