-- Laws of numbers that are read, and the invariants of `decimal` and `magnitude`. Assumes nothing.
use mathlib.Core.Path.{◌≡◌, ◌∙◌, refl, sym, ap}
use mathlib.Core.Logic.{◌≢◌}
use mathlib.Core.Bool.{Bool, true, false, cond, ◌&&◌}
use mathlib.Core.List.{List, [], ◌∷◌}
use Rattle.std.specs.Prelude.{Option, None, Some}
use Prim.Native.Nat.{ℕ, suc, ◌+◌, ◌*◌, ◌-◌, ◌^◌, ◌≤◌, ◌<◌}
use native.Mathlib.Nat.{pow-suc, pow-le-pow_right, mul_comm, mul_assoc, mul-le-mul_right, lt_of_lt_of_le}
use native.Mathlib.Omega.{arith}
use borrow.Author.Tests.{le-leb, lt-leb, leb-true, ne_eqb}
use lib.Dec.{leb}
use lib.ListN.{length, get_or}
use lib.Seq.{slice, length-slice}
use Rattle.text.specs.Number.{within, digits_behind, natural, at_most, digits_to, plus, negated, i32_of}
use Rattle.text.specs.Read.{Part}
use Rattle.text.proofs.Laws.{part_cons, part_nil}

-- ---- digits, one after another

pub digits-none : (l : List ℕ) → digits_behind None l ≡ None
unfolding digits_behind
digits-none [] = refl
digits-none (x ∷ t) = digits-none t

-- the digits of s in from..to are read up to i, and their value is v
pub record Reading (s : List ℕ) (from to v i : ℕ) : Type 0 where
  pub left : Part s i to
  pub begun : from ≤ i
  pub same : natural (slice from to s) ≡ digits_behind (Some v) (slice i to s)

module _ {s : List ℕ} {from to : ℕ} (p : Part s from to) where
  pub natural-none : from ≡ to → natural (slice from to s) ≡ None
  unfolding natural
  natural-none e = rw (part_nil from to s (omega arith))

  pub reading-first : from ≢ to → Reading s from to 0 from
  unfolding natural
  reading-first n = record { left = p; begun = omega arith; same = rw (part_cons from to s (omega arith) p.within) }

module _ {s : List ℕ} {from to v i : ℕ} (r : Reading s from to v i) where
  pub reading-last : to ≤ i → natural (slice from to s) ≡ Some v
  unfolding digits_behind
  reading-last h = r.same ∙ rw (part_nil i to s h)

  module _ (h : i < to) where
    next : natural (slice from to s) ≡ digits_behind (cond (within 48 57 (get_or s i 0)) (Some (v * 10 + (get_or s i 0 - 48))) None) (slice (i + 1) to s)
    unfolding digits_behind
    next = r.same ∙ rw (part_cons i to s h r.left.within, digits_behind)

    pub reading-low : get_or s i 0 < 48 → natural (slice from to s) ≡ None
    reading-low e = next ∙ rw (lt-leb _ _ e) (digits-none (slice (i + 1) to s))

    module _ (l : 48 ≤ get_or s i 0) where
      pub reading-high : 57 < get_or s i 0 → natural (slice from to s) ≡ None
      reading-high e = next ∙ rw (le-leb _ _ l, lt-leb _ _ e) (digits-none (slice (i + 1) to s))

      pub reading-more : get_or s i 0 ≤ 57 → (d : ℕ) → d ≡ get_or s i 0 - 48 → Reading s from to (v * 10 + d) (i + 1)
      reading-more u d e = record { left = omega arith; begun = omega arith; same = next ∙ rw (le-leb _ _ l, le-leb _ _ u, e) }

-- ---- a number that is not above a limit

pub at-most : (hi : ℕ) (o : Option ℕ) {v : ℕ} → Some v ≡ at_most hi o → v ≤ hi
at-most hi None e = absurd (let z : ◌≡◌ {A = ℕ} 0 1 = cc in omega arith)
at-most hi (Some w) {v} e = go (leb w hi) refl e
  where
    go : (t : Bool) → leb w hi ≡ t → Some v ≡ cond t (Some w) None → v ≤ hi
    go true h k =
        let g : v ≡ w = cc in
        omega (arith, leb-true w hi h)
    go false h k = absurd (let z : ◌≡◌ {A = ℕ} 0 1 = cc in omega arith)

-- ---- `magnitude`: any number of digits, so that the value is cut at hi

-- what is past the limit stays past it
past : (hi v : ℕ) (l : List ℕ) → hi < v → at_most hi (digits_behind (Some v) l) ≡ None
unfolding digits_behind
past hi v [] h = rw (lt-leb v hi h)
past hi v (x ∷ t) h = go (within 48 57 x) (past hi (v * 10 + (x - 48)) t (omega arith))
  where
    go : (d : Bool) → at_most hi (digits_behind (Some (v * 10 + (x - 48))) t) ≡ None → at_most hi (digits_behind (cond d (Some (v * 10 + (x - 48))) None) t) ≡ None
    go true e = e
    go false e = rw (digits-none t)

pub reading-past : {s : List ℕ} {from to v i : ℕ} → Reading s from to v i → (hi : ℕ) → hi < v → at_most hi (natural (slice from to s)) ≡ None
reading-past {s} {to = to} {v} {i} r hi h = ap (at_most hi) r.same ∙ past hi v (slice i to s) h

pub record Bounded (s : List ℕ) (from to hi v i : ℕ) : Type 0 where
  pub reading : Reading s from to v i
  pub small : v ≤ hi

pub bounded_last : {s : List ℕ} {from to hi v i : ℕ} → Bounded s from to hi v i → to ≤ i → at_most hi (natural (slice from to s)) ≡ Some v
bounded_last {hi = hi} r h = ap (at_most hi) (reading-last r.reading h) ∙ rw (le-leb _ _ r.small)

-- ---- `decimal`: few digits, so that nothing is cut

-- a value with the digits l behind it
pub digits-small : (l : List ℕ) (v w : ℕ) → digits_behind (Some v) l ≡ Some w → w < (v + 1) * 10 ^ length l
unfolding digits_behind
digits-small [] v w e =
    let g : v ≡ w = cc in
    omega arith
digits-small (x ∷ t) v w e = go (leb 48 x) (leb x 57) refl (digits-small t (v * 10 + (x - 48)) w) e
  where
    more : (d p : ℕ) → d ≤ 9 → w < (v * 10 + d + 1) * p → w < (v + 1) * (p * 10)
    more d p h k =
        let e : (v + 1) * (p * 10) ≡ (v + 1) * 10 * p = ap (λ (n : ℕ). (v + 1) * n) (mul_comm p 10) ∙ sym (mul_assoc (v + 1) 10 p) in
        let g : v * 10 + d + 1 ≤ (v + 1) * 10 = omega arith in
        rw e (lt_of_lt_of_le k (mul-le-mul_right p g))

    go : (a b : Bool) → leb x 57 ≡ b → (digits_behind (Some (v * 10 + (x - 48))) t ≡ Some w → w < (v * 10 + (x - 48) + 1) * 10 ^ length t)
        → digits_behind (cond (a && b) (Some (v * 10 + (x - 48))) None) t ≡ Some w → w < (v + 1) * 10 ^ suc (length t)
    go true true h ih k = rw (pow-suc 10 (length t)) (more (x - 48) (10 ^ length t) (omega (arith, leb-true x 57 h)) (ih k))
    go true false h ih k = absurd (let z : ◌≡◌ {A = ℕ} 0 1 = cc (digits-none t) in omega arith)
    go false b h ih k = absurd (let z : ◌≡◌ {A = ℕ} 0 1 = cc (digits-none t) in omega arith)

-- up to 18 digits
natural-few : (l : List ℕ) → length l ≤ 18 → at_most 999999999999999999 (natural l) ≡ natural l
unfolding natural
natural-few [] h = refl
natural-few (x ∷ t) h = go (digits_behind (Some 0) (x ∷ t)) (digits-small (x ∷ t) 0)
  where
    go : (o : Option ℕ) → ((w : ℕ) → o ≡ Some w → w < (0 + 1) * 10 ^ length (x ∷ t)) → at_most 999999999999999999 o ≡ o
    go None k = refl
    go (Some w) k =
        let g : w ≤ 999999999999999999 = omega (arith, k w refl, pow-le-pow_right {n = 10} (omega arith) {i = length (x ∷ t)} {j = 18} h) in
        rw (le-leb w 999999999999999999 g)

module _ {s : List ℕ} {from to : ℕ} (p : Part s from to) (n : ℕ) where
  size : length (slice from to s) ≡ to - from
  size = length-slice from to s p.within

  pub decimal_long : n < to - from → None ≡ digits_to n (slice from to s)
  unfolding digits_to
  decimal_long h = rw (size, lt-leb _ _ h)

  pub decimal_few : n ≤ 18 → to - from ≤ n → at_most 999999999999999999 (natural (slice from to s)) ≡ digits_to n (slice from to s)
  unfolding digits_to
  decimal_few k h =
      let l : length (slice from to s) ≤ n = omega (arith, size) in
      natural-few (slice from to s) (omega arith) ∙ rw (le-leb _ _ l)

-- ---- the sign

module _ {s : List ℕ} {from to : ℕ} (p : Part s from to) where
  pub i32-none : from ≡ to → None ≡ i32_of (slice from to s)
  unfolding i32_of
  i32-none e = rw (part_nil from to s (omega arith))

  module _ (n : from ≢ to) where
    first : slice from to s ≡ get_or s from 0 ∷ slice (from + 1) to s
    first = part_cons from to s (omega arith) p.within

    pub i32_minus : get_or s from 0 ≡ 45 → negated (at_most 0x8000_0000 (natural (slice (from + 1) to s))) ≡ i32_of (slice from to s)
    unfolding i32_of
    i32_minus e = rw (first, i32_of, e)

    pub i32-plus : get_or s from 0 ≡ 43 → plus (at_most 0x7fff_ffff (natural (slice (from + 1) to s))) ≡ i32_of (slice from to s)
    unfolding i32_of
    i32-plus e = rw (first, i32_of, e)

    pub i32-digits : get_or s from 0 ≢ 45 → get_or s from 0 ≢ 43 → plus (at_most 0x7fff_ffff (natural (slice from to s))) ≡ i32_of (slice from to s)
    unfolding i32_of
    i32-digits u v = rw (first, i32_of, ne_eqb _ _ v, ne_eqb _ _ u)
