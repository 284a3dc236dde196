-- Underscores counted: one byte more, blocks of eight, and what `few_parts` concludes. Assumes nothing.
use mathlib.Core.Path.{◌≡◌, ◌∙◌, refl, sym, ap}
use mathlib.Core.Bool.{Bool, true, false, cond}
use mathlib.Core.List.{List, [], ◌∷◌}
use Prim.Native.Nat.{ℕ, ◌+◌, ◌*◌, ◌≤◌, ◌<◌}
use native.Mathlib.Decide.{dec_lt}
use native.Mathlib.Numerals.{add-one}
use native.Mathlib.Omega.{arith}
use borrow.Author.Tests.{le-leb, lt-leb, lt-ltb, le-ltb}
use lib.Dec.{ltb, eqb}
use lib.ListN.{length, get_or, drop, drop_of_length-le}
use lib.Seq.{drop-cons}
use Rattle.text.specs.Text.{onto, split, underscore}
use Rattle.text.specs.Conditions.{all_of}
use Rattle.text.proofs.Parts.{split_some, onto-count}
use Rattle.table_words_parts.specs.Read.{fit, paired, occurrences, Counted}
use Rattle.table_words_parts.proofs.Tame.{none_wild}

-- one byte more, of which r tells whether it is x
count-is : (x : ℕ) (s : List ℕ) (i : ℕ) → i < length s → {r : ℕ} → r ≡ cond (eqb (get_or s i 0) x) 1 0 → occurrences x (drop i s) ≡ r + occurrences x (drop (i + 1) s)
unfolding occurrences
count-is x s i h e = rw (e, add-one, drop-cons s i 0 h)

-- ---- `count_block`

-- c underscores stand in the first k bytes from i on
pub record Block (s : List ℕ) (i c k : ℕ) : Type 0 where
  pub few : k ≤ 8
  pub most : c ≤ k
  pub still : occurrences underscore (drop i s) ≡ c + occurrences underscore (drop (i + k) s)

pub block_first : (s : List ℕ) (i : ℕ) → Block s i 0 0
block_first s i =
    let e : i + 0 ≡ i = omega arith in
    record { few = omega arith; most = omega arith; still = rw e (omega arith) }

module _ {s : List ℕ} {i c k : ℕ} (b : Block s i c k) where
  pub block_more : k < 8 → i + 8 ≤ length s → {r : ℕ} → (r ≡ cond (eqb (get_or s (i + k) 0) underscore) 1 0) × (r ≤ 1) → Block s i (c + r) (k + 1)
  block_more h p {r} q =
      let n : i + (k + 1) ≡ i + k + 1 = omega arith in
      let e = count-is underscore s (i + k) (omega arith) q.0 in
      record { few = omega arith; most = omega (arith, b.most, q.1); still = rw n (omega (arith, b.still, e)) }

  pub block_last : 8 ≤ k → (c ≤ 8) × (occurrences underscore (drop i s) ≡ c + occurrences underscore (drop (i + 8) s))
  block_last h =
      let n : k ≡ 8 = omega (arith, b.few) in
      (omega (arith, b.most), rw n at b.still)

-- ---- `count_blocks`

pub record Blocks (s : List ℕ) (n c j : ℕ) : Type 0 where
  pub le : j ≤ n
  pub room : 8 * n ≤ length s
  pub most : c ≤ 8 * j
  pub still : occurrences underscore s ≡ c + occurrences underscore (drop (8 * j) s)

pub blocks_first : (s : List ℕ) (n : ℕ) → 8 * n ≤ length s → Blocks s n 0 0
blocks_first s n h = record { le = omega arith; room = h; most = omega arith; still = omega arith }

module _ {s : List ℕ} {n c j : ℕ} (b : Blocks s n c j) where
  module _ (h : j < n) {r : ℕ} (q : (r ≤ 8) × (occurrences underscore (drop (8 * j) s) ≡ r + occurrences underscore (drop (8 * j + 8) s))) where
    pub blocks_more : Blocks s n (c + r) (j + 1)
    blocks_more =
        let e : 8 * (j + 1) ≡ 8 * j + 8 = omega arith in
        record { le = omega arith; room = b.room; most = omega (arith, b.most, q.0); still = rw e (omega (arith, b.still, q.1)) }

    pub blocks_many : {limit : ℕ} → limit ≤ c + r → Counted s (8 * n) limit (c + r)
    blocks_many k = record { few = λ l. absurd (omega arith); many = λ _. omega (arith, b.still, q.1) }

  pub blocks_last : n ≤ j → (limit : ℕ) → Counted s (8 * n) limit c
  blocks_last h limit =
      let e : j ≡ n = omega (arith, b.le) in
      record { few = λ _. rw e at b.still; many = λ l. omega (arith, b.still) }

-- ---- `few_behind`

pub record Behind (s : List ℕ) (i c limit d j : ℕ) : Type 0 where
  pub le : j ≤ length s
  pub few : d < limit
  pub still : c + occurrences underscore (drop i s) ≡ d + occurrences underscore (drop j s)

pub behind-first : (s : List ℕ) (i c limit : ℕ) → i ≤ length s → c < limit → Behind s i c limit c i
behind-first s i c limit h k = record { le = h; few = k; still = refl }

module _ {s : List ℕ} {i c limit d j : ℕ} (b : Behind s i c limit d j) where
  pub behind-last : length s ≤ j → true ≡ ltb (c + occurrences underscore (drop i s)) limit
  unfolding occurrences
  behind-last h =
      let e : occurrences underscore (drop j s) ≡ 0 = rw (drop_of_length-le s h) in
      sym (lt-ltb _ limit (omega (arith, b.still, b.few, e)))

  module _ (h : j < length s) {r : ℕ} (q : (r ≡ cond (eqb (get_or s j 0) underscore) 1 0) × (r ≤ 1)) where
    next : occurrences underscore (drop j s) ≡ r + occurrences underscore (drop (j + 1) s)
    next = count-is underscore s j h q.0

    pub behind-many : limit ≤ d + r → false ≡ ltb (c + occurrences underscore (drop i s)) limit
    behind-many k = sym (le-ltb (c + occurrences underscore (drop i s)) limit (omega (arith, b.still, next)))

    pub behind_more : d + r < limit → Behind s i c limit (d + r) (j + 1)
    behind_more k = record { le = omega arith; few = k; still = omega (arith, b.still, next) }

-- ---- `few_parts`

split-count : (x : ℕ) (l : List ℕ) → length (split x l) ≡ occurrences x l + 1
unfolding split occurrences
split-count x [] = refl
split-count x (a ∷ l) = go (eqb a x) (split-count x l)
  where
    go : (t : Bool) → length (split x l) ≡ occurrences x l + 1 → length (cond t ([] ∷ split x l) (onto a (split x l))) ≡ cond t 1 0 + occurrences x l + 1
    go true h = omega arith
    go false h = onto-count a (split x l) (split_some x l) ∙ omega arith

-- in a tame text the underscores decide
few_tame : (limit : ℕ) (l : List ℕ) → paired l ≡ false → ltb (occurrences underscore l) limit ≡ fit limit (split underscore l)
unfolding all_of
few_tame limit l e = rw (none_wild underscore l e) (
    elim (dec_lt (occurrences underscore l) limit) [
      | yes h ↦ rw (lt-ltb (occurrences underscore l) limit h, le-leb (length (split underscore l)) limit (omega (arith, split-count underscore l)))
      | no h ↦ rw (le-ltb (occurrences underscore l) limit (omega arith), lt-leb (length (split underscore l)) limit (omega (arith, split-count underscore l)))
    ]
    )

module _ {s : List ℕ} {limit i c : ℕ} (e : paired s ≡ false) (q : Counted s i limit c) where
  pub tame_many : limit ≤ c → false ≡ fit limit (split underscore s)
  tame_many h = sym (le-ltb (occurrences underscore s) limit (q.many h)) ∙ few_tame limit s e

  pub tame_rest : c < limit → {r : Bool} → r ≡ ltb (c + occurrences underscore (drop i s)) limit → r ≡ fit limit (split underscore s)
  tame_rest h k = k ∙ ap (λ (z : ℕ). ltb z limit) (sym (q.few h)) ∙ few_tame limit s e
