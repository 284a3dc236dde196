-- Texts that are the same up to a place: one byte more, eight at once, and what `compare` concludes. Assumes nothing.
use mathlib.Core.Path.{◌≡◌, ◌∙◌, refl, sym}
use mathlib.Core.Logic.{◌≢◌}
use Rattle.std.specs.Ordering.{nat_cmp}
use mathlib.Core.Bool.{Bool, true, false, not, ◌||◌, false≢true}
use mathlib.Core.List.{List, ◌∷◌}
use Prim.Native.Nat.{ℕ, ◌+◌, min, ◌≤◌, ◌<◌}
use native.Mathlib.Numerals.{add-one}
use native.Mathlib.Decide.{dec_lt}
use native.Mathlib.Omega.{arith}
use borrow.Author.Tests.{eq-eqb, ne_eqb, lt-ltb, le-ltb, eqb-true}
use lib.Dec.{eqb}
use lib.ListN.{length, get_or, drop, drop_of_length-le}
use lib.Seq.{drop-cons}
use Rattle.text.specs.Text.{same}
use Rattle.table_words.specs.Words.{less}
use Rattle.table_words_order.specs.Read.{order_of, Level}

pub level_none : (a b : List ℕ) (i : ℕ) → i ≤ length a → i ≤ length b → Level a b i i
level_none a b i h k = record { le = h; also = k; still = refl }

module _ {a b : List ℕ} {i j : ℕ} (c : Level a b i j) where
  pub level_on : {k : ℕ} → Level a b j k → Level a b i k
  level_on d = record { le = d.le; also = d.also; still = c.still ∙ d.still }

  module _ (h : j < length a) (k : j < length b) where
    pub level_at : order_of (drop i a) (drop i b) ≡ order_of (get_or a j 0 ∷ drop (j + 1) a) (get_or b j 0 ∷ drop (j + 1) b)
    level_at = c.still ∙ rw (add-one, drop-cons a j 0 h, drop-cons b j 0 k)

    pub level_more : get_or a j 0 ≡ get_or b j 0 → Level a b i (j + 1)
    unfolding order_of less same
    level_more e = record { le = omega arith; also = omega arith; still = level_at ∙ rw (eq-eqb (get_or a j 0) (get_or b j 0) e) }

-- ---- `same_block`

-- k bytes of a block are compared, and those that differ were seen
pub record Block (a b : List ℕ) (i : ℕ) (other : Bool) (k : ℕ) : Type 0 where
  pub few : k ≤ 8
  pub level : other ≡ false → Level a b i (i + k)

pub block_first : (a b : List ℕ) (i : ℕ) → i + 8 ≤ length a → i + 8 ≤ length b → Block a b i false 0
block_first a b i h k =
    let e : i + 0 ≡ i = omega arith in
    record { few = omega arith; level = λ _. rw e (level_none a b i (omega arith) (omega arith)) }

-- neither was a byte seen that differs, nor does this one
neither : (o t : Bool) → (o || not t) ≡ false → (o ≡ false) × (t ≡ true)
neither true t e = absurd (false≢true (sym e))
neither false true e = (refl, refl)
neither false false e = absurd (false≢true (sym e))

module _ {a b : List ℕ} {i : ℕ} {other : Bool} {k : ℕ} (c : Block a b i other k) where
  pub block_more : k < 8 → i + 8 ≤ length a → i + 8 ≤ length b → Block a b i (other || not (eqb (get_or a (i + k) 0) (get_or b (i + k) 0))) (k + 1)
  block_more h p q =
      let n : i + (k + 1) ≡ i + k + 1 = omega arith in
      record {
        few = omega arith;
        level = λ e.
            let d = neither other (eqb (get_or a (i + k) 0) (get_or b (i + k) 0)) e in
            rw n (level_more (c.level d.0) (omega arith) (omega arith) (eqb-true _ _ d.1));
      }

  pub block_last : 8 ≤ k → not other ≡ true → Level a b i (i + 8)
  block_last h e =
      let n : k ≡ 8 = omega (arith, c.few) in
      rw n at (c.level (go other e))
    where
      go : (o : Bool) → not o ≡ true → o ≡ false
      go true f = absurd (false≢true f)
      go false f = refl

-- ---- `compare`

module _ {a b : List ℕ} {i : ℕ} (c : Level a b 0 i) where
  -- the bytes at i are the first that differ
  pub level_differ : i < length a → i < length b → get_or a i 0 ≢ get_or b i 0 → nat_cmp (get_or a i 0) (get_or b i 0) ≡ order_of a b
  unfolding order_of less same
  level_differ h k e = sym (level_at c h k ∙ rw (ne_eqb (get_or a i 0) (get_or b i 0) e))

  -- one of the texts ends at i
  pub level_last : min (length a) (length b) ≤ i → nat_cmp (length a) (length b) ≡ order_of a b
  unfolding order_of less same
  level_last h = elim (dec_lt (length a) (length b)) [
    | yes l ↦
        rw (lt-ltb (length a) (length b) l) (sym (c.still ∙ rw (drop_of_length-le a {i = i} (omega arith), drop-cons b i 0 (omega (arith, c.le)))))
    | no l ↦ elim (dec_lt (length b) (length a)) [
      | yes m ↦
          rw (le-ltb (length a) (length b) (omega arith), ne_eqb (length a) (length b) (omega arith))
          (sym (c.still ∙ rw (drop_of_length-le b {i = i} (omega arith), drop-cons a i 0 (omega (arith, c.also)))))
      | no m ↦
          rw (le-ltb (length a) (length b) (omega arith), eq-eqb (length a) (length b) (omega arith))
          (sym (c.still ∙ rw (drop_of_length-le a {i = i} (omega arith), drop_of_length-le b {i = i} (omega arith))))
    ]
  ]
