-- A hold and a record from before lots pass the checks of today, and are read as they were. Assumes nothing.
use Prim.Native.Nat.{ℕ, ◌+◌, ◌*◌, ◌<◌, ◌≤◌}
use native.Mathlib.Omega.{arith}
use mathlib.Core.Bool.{Bool, true, false, cond, ◌&&◌, ◌||◌, false≢true}
use mathlib.Core.List.{List, [], ◌∷◌}
use mathlib.Core.Path.{◌≡◌, refl, ap, ◌∙◌}
use lib.Dec.{eqb, ltb}
use lib.ListN.{drop, take}
use lib.Seq.{drop-drop}
use borrow.Author.Tests.{le-leb, ltb-true, eqb-true}
use Rattle.le.specs.Le.{part, le_nat}
use Rattle.le.specs.Field.{u8, u16, u32}
use Rattle.text.proofs.Same.{same_eq}
use Rattle.text.proofs.Conditions.{fact, none_left, ◌also◌, sure}
use Rattle.sheet.specs.Sheet.{lots_limit}
use Rattle.position.specs.Step.{held_lots}
use Rattle.book.specs.Layout.{pos_at, hold_of, record_of}
use Rattle.book.specs.Check.{zeros, hold_ok, description_ok, record_ok}
use Rattle.book_older.specs.Older.{hold_was, record_was, hold_meant, record_meant}

-- ---- a hold

no_lots : (b : List ℕ) → zeros b 14 2 ≡ true → u16 b 14 ≡ 0
unfolding le_nat
no_lots b h = ap le_nat (same_eq (part b 14 2) (0 ∷ 0 ∷ []) h)

pub hold_passes : (b : List ℕ) → hold_was b ≡ true → hold_ok b ≡ true
unfolding hold_was hold_ok
hold_passes b h =
    sure
    (fact _ h 0
    also fact _ h 1
    also fact _ h 2
    also rw (no_lots b (fact _ h 3)) (le-leb 0 (held_lots (pos_at (u8 b 12)) lots_limit) (omega arith))
    also fact _ h 4
    also none_left)

pub hold_same : (b : List ℕ) → hold_was b ≡ true → hold_of b ≡ hold_meant b
unfolding hold_was hold_of hold_meant
hold_same b h = rw (no_lots b (fact _ h 3)) refl

-- ---- a record

-- four bytes are two and two
halves : (l : List ℕ) → le_nat (take 4 l) ≡ le_nat (take 2 l) + 65536 * le_nat (take 2 (drop 2 l))
unfolding le_nat
halves [] = refl
halves (a ∷ []) = omega arith
halves (a ∷ b ∷ []) = omega arith
halves (a ∷ b ∷ c ∷ []) = omega arith
halves (a ∷ b ∷ c ∷ d ∷ l) = omega arith

-- an event's index is that of one of at most 32, or 0
small : (n code event : ℕ) → n ≤ 32 → description_ok n code event ≡ true → event < 32
small n code event few h = go (eqb code 1) (eqb code 2 || eqb code 3) h
  where
    go : (s t : Bool) → cond s (ltb event n) (t && eqb event 0) ≡ true → event < 32
    go true t k = omega (arith, ltb-true event n k)
    go false true k = omega (arith, eqb-true event 0 k)
    go false false k = absurd (false≢true k)

module _ (n : ℕ) (few : n ≤ 32) (b : List ℕ) (h : record_was n b ≡ true) where
  described : description_ok n (u8 b 26) (u32 b 28) ≡ true
  unfolding record_was
  described = fact _ h 5

  two : u32 b 28 ≡ u16 b 28 + 65536 * u16 b 30
  unfolding part
  two = halves (drop 28 b) ∙ ap (λ (l : List ℕ). le_nat (take 2 (drop 28 b)) + 65536 * le_nat (take 2 l)) (drop-drop 2 28 b)

  event : u32 b 28 ≡ u16 b 28
  event = omega (arith, two, small n (u8 b 26) (u32 b 28) few described)

  lots : u16 b 30 ≡ 0
  lots = omega (arith, two, small n (u8 b 26) (u32 b 28) few described)

  pub record_passes : record_ok n b ≡ true
  unfolding record_was record_ok
  record_passes =
      sure
      (fact _ h 0
      also fact _ h 1
      also fact _ h 2
      also fact _ h 3
      also fact _ h 4
      also rw event at described
      also fact _ h 6
      also rw lots refl
      also none_left)

  pub record_same : record_of b ≡ record_meant b
  unfolding record_of record_meant
  record_same = rw (event, lots) refl
