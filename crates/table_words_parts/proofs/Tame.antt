-- Texts in which the wildcard cannot stand: the invariant of `is_tame`, their parts, and parts of them. Assumes nothing.
use mathlib.Core.Path.{◌≡◌, ◌∙◌, refl, sym, ap}
use mathlib.Core.Bool.{Bool, true, false, not, cond, ◌&&◌, ◌||◌, false≢true}
use mathlib.Core.List.{List, [], ◌∷◌}
use Prim.Native.Nat.{ℕ, zero, suc, ◌+◌, ◌-◌, ◌*◌, ◌≤◌, ◌<◌}
use native.Mathlib.Omega.{arith}
use borrow.Author.Tests.{eqb-true}
use lib.Dec.{eqb}
use lib.ListN.{length, get_or, take, drop, length-drop}
use lib.Seq.{drop-cons}
use Rattle.text.specs.Text.{onto, split}
use Rattle.text.specs.Conditions.{every}
use Rattle.text.proofs.Every.{every_cons, cons_every}
use Rattle.text.proofs.Same.{same_eq}
use Rattle.signal.specs.Signal.{wildcard}
use Rattle.signal.proofs.Opened.{opened}
use Rattle.table_words.specs.Words.{is_wild}
use Rattle.table_words_parts.specs.Read.{is_pair, paired}

-- ---- `met_pair`

-- other bytes than the two make another number
pub pair_other : (a b : ℕ) → (256 * a + b ≡ 0xbbbb → ⊥) → is_pair a b ≡ false
pair_other a b h = go (eqb a 0xbb) (eqb b 0xbb) refl refl
  where
    go : (p q : Bool) → eqb a 0xbb ≡ p → eqb b 0xbb ≡ q → (p && q) ≡ false
    go true true e f =
        let x = eqb-true a 0xbb e in
        let y = eqb-true b 0xbb f in
        absurd (h (omega arith))
    go true false e f = refl
    go false q e f = refl

-- ---- `is_tame`

-- where m is 0, a pair can only stand from i - 1 on
pub record Taming (s : List ℕ) (m i : ℕ) : Type 0 where
  pub begun : 1 ≤ i
  pub still : m ≡ 0 → paired s ≡ paired (drop (i - 1) s)

pub taming_first : (s : List ℕ) → Taming s 0 1
taming_first s = record { begun = omega arith; still = λ _. refl }

short : (l : List ℕ) → length l ≤ 1 → paired l ≡ false
unfolding paired
short [] h = refl
short (a ∷ []) h = refl
short (a ∷ b ∷ l) h = absurd (omega arith)

module _ {s : List ℕ} {m i : ℕ} (c : Taming s m i) where
  pub taming_more : i < length s → {r : ℕ} → (r ≡ 0 → (m ≡ 0) × (is_pair (get_or s (i - 1) 0) (get_or s i 0) ≡ false)) → Taming s r (i + 1)
  unfolding paired
  taming_more h k = record { begun = omega arith; still = λ e. c.still (k e).0 ∙ next (k e).1 }
    where
      next : is_pair (get_or s (i - 1) 0) (get_or s i 0) ≡ false → paired (drop (i - 1) s) ≡ paired (drop (i + 1 - 1) s)
      next e =
          let p : suc (i - 1) ≡ i = omega (arith, c.begun) in
          let q : i + 1 - 1 ≡ i = omega arith in
          rw (q, drop-cons s (i - 1) 0 (omega arith), p, drop-cons s i 0 h, e)

  pub taming_last : length s ≤ i → eqb m 0 ≡ true → paired s ≡ false
  taming_last h e = c.still (eqb-true m 0 e) ∙ short (drop (i - 1) s) (omega (arith, length-drop (i - 1) s, c.begun))

-- ---- parts of a tame text

paired-rest : (a : ℕ) (l : List ℕ) → paired (a ∷ l) ≡ false → paired l ≡ false
unfolding paired
paired-rest a [] e = refl
paired-rest a (b ∷ l) e = go (is_pair a b) (paired (b ∷ l)) e
  where
    go : (p q : Bool) → (p || q) ≡ false → q ≡ false
    go true q k = absurd (false≢true (sym k))
    go false q k = k

paired-first : (a b : ℕ) (l : List ℕ) → paired (a ∷ b ∷ l) ≡ false → is_pair a b ≡ false
unfolding paired
paired-first a b l e = go (is_pair a b) (paired (b ∷ l)) e
  where
    go : (p q : Bool) → (p || q) ≡ false → p ≡ false
    go true q k = absurd (false≢true (sym k))
    go false q k = refl

paired-drop : (n : ℕ) (l : List ℕ) → paired l ≡ false → paired (drop n l) ≡ false
paired-drop zero l e = e
paired-drop (suc n) [] e = e
paired-drop (suc n) (a ∷ l) e = paired-drop n l (paired-rest a l e)

paired-take : (n : ℕ) (l : List ℕ) → paired l ≡ false → paired (take n l) ≡ false
unfolding paired
paired-take zero l e = refl
paired-take (suc n) [] e = e
paired-take (suc zero) (a ∷ l) e = refl
paired-take (suc (suc n)) (a ∷ []) e = refl
paired-take (suc (suc n)) (a ∷ b ∷ l) e = rw (paired-first a b l e) (paired-take (suc n) (b ∷ l) (paired-rest a (b ∷ l) e))

pub part_tame : (l : List ℕ) (f n : ℕ) → paired l ≡ false → paired (take n (drop f l)) ≡ false
part_tame l f n e = paired-take n (drop f l) (paired-drop f l e)

-- ---- the parts between separators

parts_tame : (x : ℕ) (l : List ℕ) → paired l ≡ false → every (λ p. not (paired p)) (split x l) ≡ true
unfolding split onto paired every
parts_tame x [] e = refl
parts_tame x (a ∷ []) e = go (eqb a x)
  where
    go : (t : Bool) → every (λ p. not (paired p)) (cond t ([] ∷ [] ∷ []) ((a ∷ []) ∷ [])) ≡ true
    go true = refl
    go false = refl
parts_tame x (a ∷ b ∷ l) e = go (eqb a x) (eqb b x) (split x l) (parts_tame x (b ∷ l) (paired-rest a (b ∷ l) e))
  where
    go : (s t : Bool) (ps : List (List ℕ)) → every (λ p. not (paired p)) (cond t ([] ∷ ps) (onto b ps)) ≡ true
        → every (λ p. not (paired p)) (cond s ([] ∷ cond t ([] ∷ ps) (onto b ps)) (onto a (cond t ([] ∷ ps) (onto b ps)))) ≡ true
    go true t ps h = h
    go false true ps h = h
    go false false [] h = rw (paired-first a b l e)
    go false false (q ∷ qs) h = rw (paired-first a b l e) h

-- the wildcard has the pair
wild_paired : (p : List ℕ) → is_wild p ≡ true → paired p ≡ true
unfolding paired opened
wild_paired p e = ap paired (same_eq p wildcard e)

tame_wild : (p : List ℕ) → not (paired p) ≡ true → not (is_wild p) ≡ true
tame_wild p k = go (is_wild p) refl
  where
    go : (t : Bool) → is_wild p ≡ t → not t ≡ true
    go true w = absurd (false≢true (sym (ap not (wild_paired p w)) ∙ k))
    go false w = refl

none_of : (ps : List (List ℕ)) → every (λ p. not (paired p)) ps ≡ true → every (λ p. not (is_wild p)) ps ≡ true
unfolding every
none_of [] k = refl
none_of (p ∷ ps) k =
    let o = every_cons (λ q. not (paired q)) p ps k in
    cons_every (λ q. not (is_wild q)) p ps (tame_wild p o.0) (none_of ps o.1)

pub none_wild : (x : ℕ) (l : List ℕ) → paired l ≡ false → every (λ p. not (is_wild p)) (split x l) ≡ true
none_wild x l e = none_of (split x l) (parts_tame x l e)
