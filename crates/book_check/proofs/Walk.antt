-- A walk over slots: the invariant that `holds_ok` and `records_ok` share. Assumes nothing.
use Prim.Native.Nat.{ℕ, zero, suc, ◌+◌, ◌-◌, ◌*◌, ◌≤◌, ◌<◌}
use native.Mathlib.Omega.{arith}
use native.Mathlib.Numerals.{add-one}
use mathlib.Core.Bool.{Bool, true, false, cond, ◌&&◌}
use mathlib.Core.List.{List, [], ◌∷◌}
use mathlib.Core.Logic.{◌≢◌}
use mathlib.Core.Path.{◌≡◌, refl, sym, ap, ◌∙◌}
use lib.IntN.{ℤ}
use lib.ListN.{length, take, drop}
use lib.Signed.{lt_z}
use lib.Seq.{take-take}
use borrow.Author.Tests.{ne_eqb}
use Rattle.le.specs.Le.{part}
use Rattle.le.specs.Field.{i64}
use Rattle.le.proofs.Laws.{part_lent}
use Rattle.text.specs.Conditions.{all_of, every}
use Rattle.book.specs.Layout.{slots}
use Rattle.book.specs.Check.{rising}
use Rattle.book_check.specs.Walk.{orderly, risen}

-- a slot's instant is that of the bytes where it is
instant-at : (b : List ℕ) (p : ℕ) → i64 (part b p 32) 0 ≡ i64 b p
unfolding part
instant-at b p = rw (take-take 8 32 (drop p b) (omega arith))

-- ---- `rises`

module _ (b : List ℕ) (p : ℕ) {i : ℕ} where
  pub risen-first : i ≡ 0 → true ≡ risen b p i
  unfolding risen
  risen-first e = rw e refl

  pub risen_later : i ≢ 0 → {x y : ℤ} → x ≡ i64 b (p - 32) → y ≡ i64 b p → lt_z x y ≡ risen b p i
  unfolding risen
  risen_later e q r = rw (ne_eqb i 0 e, q, r) refl

-- ---- `holds_ok` and `records_ok`

-- the slots l with the one before them, at p - 32, where they start with another than number 0
unfoldable pub since : List ℕ → ℕ → ℕ → List (List ℕ) → List (List ℕ)
since b p zero l = l
since b p (suc i) l = part b (p - 32) 32 ∷ l

-- what is asked of the slots l from number i on, at p
abbrev pub asked : (List ℕ → Bool) → List ℕ → ℕ → ℕ → List (List ℕ) → Bool
asked f b p i l = all_of (every f l ∷ rising (since b p i l) ∷ [])

since_rises : (b : List ℕ) (p i : ℕ) (l : List (List ℕ)) → rising (since b p i (part b p 32 ∷ l)) ≡ (risen b p i && rising (part b p 32 ∷ l))
unfolding since rising risen
since_rises b p zero l = refl
since_rises b p (suc i) l = rw (instant-at b (p - 32), instant-at b p, ne_eqb (suc i) 0 (λ e. omega arith)) refl

since_next : (b : List ℕ) (p i : ℕ) (l : List (List ℕ)) → since b (p + 32) (i + 1) l ≡ part b p 32 ∷ l
unfolding since
since_next b p i l =
    let e : p + 32 - 32 ≡ p = omega arith in
    rw (add-one, e)

module _ (f : List ℕ → Bool) (b : List ℕ) (p i : ℕ) (l : List (List ℕ)) where
  asked-more : asked f b p i (part b p 32 ∷ l) ≡ cond (f (part b p 32)) (cond (risen b p i) (asked f b (p + 32) (i + 1) l) false) false
  unfolding all_of every
  asked-more = rw (since_rises b p i l, since_next b p i l) (go (f (part b p 32)) (risen b p i) (every f l))
    where
      go : (x y z : Bool) → all_of (cond x z false ∷ (y && rising (part b p 32 ∷ l)) ∷ []) ≡ cond x (cond y (all_of (z ∷ rising (part b p 32 ∷ l) ∷ [])) false) false
      go true true z = refl
      go true false true = refl
      go true false false = refl
      go false y z = refl

asked-none : (f : List ℕ → Bool) (b : List ℕ) (p i : ℕ) → asked f b p i [] ≡ true
unfolding all_of every since rising
asked-none f b p zero = refl
asked-none f b p (suc i) = refl

joined : (x y z : Bool) → cond x (cond y z false) false ≡ cond (x && y) z false
joined true y z = refl
joined false y z = refl

-- the slots before number i have f and rise
pub record Walking (f : List ℕ → Bool) (b : List ℕ) (at n i : ℕ) : Type 0 where
  pub room : at + 32 * n ≤ length b
  pub still : orderly f (slots b at n) ≡ asked f b (at + 32 * i) i (slots b (at + 32 * i) (n - i))

pub walking_first : (f : List ℕ → Bool) (b : List ℕ) (at n : ℕ) → at + 32 * n ≤ length b → Walking f b at n 0
unfolding orderly since
walking_first f b at n h =
    let e : n - 0 ≡ n = omega arith in
    let p : at + 32 * 0 ≡ at = omega arith in
    record { room = h; still = rw (e, p) refl }

module _ {f : List ℕ → Bool} {b : List ℕ} {at n i : ℕ} (w : Walking f b at n i) where
  pub walking_last : n ≤ i → true ≡ orderly f (slots b at n)
  unfolding slots
  walking_last h =
      let e : n - i ≡ 0 = omega arith in
      sym (w.still ∙ rw e (asked-none f b (at + 32 * i) i))

  module _ (h : i < n) where
    -- the slot, and the slots behind it
    later : Bool
    later = asked f b (at + 32 * i + 32) (i + 1) (slots b (at + 32 * i + 32) (n - (i + 1)))

    turn : orderly f (slots b at n) ≡ cond (f (part b (at + 32 * i) 32) && risen b (at + 32 * i) i) later false
    unfolding slots later
    turn =
        let e : n - i ≡ suc (n - (i + 1)) = omega arith in
        w.still ∙ rw e (asked-more f b (at + 32 * i) i (slots b (at + 32 * i + 32) (n - (i + 1)))) ∙ joined (f (part b (at + 32 * i) 32)) (risen b (at + 32 * i) i) later

    -- what is told of the slot as it is lent
    module _ {v : Bool} (told : v ≡ (f (take (at + 32 * i + 32 - (at + 32 * i)) (drop (at + 32 * i) b)) && risen b (at + 32 * i) i)) where
      told_is : (f (part b (at + 32 * i) 32) && risen b (at + 32 * i) i) ≡ v
      told_is = sym (told ∙ ap (λ (l : List ℕ). f l && risen b (at + 32 * i) i) (part_lent b (at + 32 * i) 32))

      pub walking_off : v ≡ false → false ≡ orderly f (slots b at n)
      walking_off e = sym (turn ∙ rw (told_is, e))

      pub walking_more : v ≡ true → Walking f b at n (i + 1)
      unfolding later
      walking_more e =
          let next : at + 32 * i + 32 ≡ at + 32 * (i + 1) = omega arith in
          record { room = w.room; still = rw (← next) (turn ∙ rw (told_is, e)) }
