-- Laws of `index_of`, `has` and `split`: a text's first separator, and its parts one after another. Assumes nothing.
use mathlib.Core.Path.{◌≡◌, ◌∙◌, refl, sym, ap}
use mathlib.Core.Logic.{◌≢◌}
use mathlib.Core.Bool.{Bool, true, false, cond, ◌||◌}
use mathlib.Core.List.{List, [], ◌∷◌}
use Prim.Native.Nat.{ℕ, suc, ◌+◌, ◌-◌, ◌≤◌, ◌<◌}
use native.Mathlib.Omega.{arith}
use borrow.Author.Tests.{eq-eqb, ne_eqb}
use lib.Dec.{eqb}
use lib.ListN.{length, get_or, take, drop}
use lib.Seq.{slice, length-slice, drop-drop}
use Rattle.std.specs.List.{list_any}
use Rattle.text.specs.Text.{has, onto, split}
use Rattle.text.specs.Read.{Part, index_of, index_after, FirstAt}
use Rattle.text.proofs.Laws.{part_cons, part_nil, part-take}

-- ---- the first b

-- b stands in the text if some element is b
pub has-any : (b : ℕ) (l : List ℕ) → list_any (λ y. eqb y b) l ≡ has b l
unfolding has
has-any b [] = refl
has-any b (x ∷ t) = ap (λ e. eqb x b || e) (has-any b t)

-- no separator: one part
split_miss : (b : ℕ) (l : List ℕ) → index_of b l ≡ length l → split b l ≡ l ∷ []
unfolding split index_of index_after onto
split_miss b [] h = refl
split_miss b (x ∷ t) h = go (eqb x b) (split_miss b t) h
  where
    go : (e : Bool) → (index_of b t ≡ length t → split b t ≡ t ∷ []) → index_after e (index_of b t) ≡ suc (length t)
        → cond e ([] ∷ split b t) (onto x (split b t)) ≡ (x ∷ t) ∷ []
    go true ih g = absurd (omega arith)
    go false ih g = ap (onto x) (ih (omega arith))

-- a separator: the part before it, and the parts after it
split_hit : (b : ℕ) (l : List ℕ) → index_of b l < length l → split b l ≡ take (index_of b l) l ∷ split b (drop (suc (index_of b l)) l)
unfolding split index_of index_after onto
split_hit b [] h = absurd (omega arith)
split_hit b (x ∷ t) h = go (eqb x b) (split_hit b t) h
  where
    go : (e : Bool) → (index_of b t < length t → split b t ≡ take (index_of b t) t ∷ split b (drop (suc (index_of b t)) t))
        → index_after e (index_of b t) < suc (length t)
        → cond e ([] ∷ split b t) (onto x (split b t))
        ≡ take (index_after e (index_of b t)) (x ∷ t) ∷ split b (drop (suc (index_after e (index_of b t))) (x ∷ t))
    go true ih g = refl
    go false ih g = ap (onto x) (ih (omega arith))

pub split_some : (b : ℕ) (l : List ℕ) → 1 ≤ length (split b l)
unfolding split onto
split_some b [] = omega arith
split_some b (x ∷ t) = go (eqb x b) (split b t)
  where
    go : (e : Bool) (ps : List (List ℕ)) → 1 ≤ length (cond e ([] ∷ ps) (onto x ps))
    go true ps = omega arith
    go false [] = omega arith
    go false (p ∷ ps) = omega arith

-- ---- the parts of a part

module _ {s : List ℕ} {from to b r : ℕ} (p : Part s from to) (f : FirstAt s from to b r) where
  size : length (slice from to s) ≡ to - from
  size = length-slice from to s p.within

  pub split-next : r < to → split b (slice from to s) ≡ slice from r s ∷ split b (slice (r + 1) to s)
  split-next h = split_hit b (slice from to s) (omega (arith, size, f.at)) ∙ rw (head, tail)
    where
      head : take (index_of b (slice from to s)) (slice from to s) ≡ slice from r s
      head = part-take from to (index_of b (slice from to s)) s (omega (arith, f.at)) ∙ ap (λ (k : ℕ). slice from k s) (sym f.at)

      tail : drop (suc (index_of b (slice from to s))) (slice from to s) ≡ slice (r + 1) to s
      tail =
          let e : from + suc (index_of b (slice from to s)) ≡ r + 1 = omega (arith, f.at) in
          drop-drop (suc (index_of b (slice from to s))) from (take to s) ∙ ap (λ (k : ℕ). slice k to s) e

  pub split-last : r ≡ to → split b (slice from to s) ≡ slice from to s ∷ []
  split-last e = split_miss b (slice from to s) (omega (arith, size, f.at, p.order))

-- ---- `count_parts`

-- n parts are counted up to i, and those from there on are still to count
pub record Counting (s : List ℕ) (from to b n i : ℕ) : Type 0 where
  pub left : Part s i to
  pub begun : from ≤ i
  pub few : n ≤ i - from + 1
  pub count : n + length (split b (slice i to s)) ≡ length (split b (slice from to s)) + 1

pub onto-count : (x : ℕ) (ps : List (List ℕ)) → 1 ≤ length ps → length (onto x ps) ≡ length ps
unfolding onto
onto-count x [] h = absurd (omega arith)
onto-count x (p ∷ ps) h = refl

module _ {s : List ℕ} {from to b n i : ℕ} (c : Counting s from to b n i) where
  pub counting_last : to ≤ i → n ≡ length (split b (slice from to s))
  unfolding split
  counting_last h =
      let e : length (split b (slice i to s)) ≡ 1 = rw (part_nil i to s h) in
      omega arith

  module _ (h : i < to) where
    rest : split b (slice i to s) ≡ cond (eqb (get_or s i 0) b) ([] ∷ split b (slice (i + 1) to s)) (onto (get_or s i 0) (split b (slice (i + 1) to s)))
    unfolding split
    rest = rw (part_cons i to s h c.left.within, split)

    pub counting_hit : get_or s i 0 ≡ b → Counting s from to b (n + 1) (i + 1)
    counting_hit e =
        let g : length (split b (slice i to s)) ≡ suc (length (split b (slice (i + 1) to s))) = ap length rest ∙ rw (eq-eqb _ _ e) in
        record { left = omega arith; begun = omega arith; few = omega arith; count = omega arith }

    pub counting_miss : get_or s i 0 ≢ b → Counting s from to b n (i + 1)
    counting_miss e =
        let g : length (split b (slice i to s)) ≡ length (split b (slice (i + 1) to s)) =
        ap length rest ∙ rw (ne_eqb _ _ e) (onto-count (get_or s i 0) (split b (slice (i + 1) to s)) (split_some b (slice (i + 1) to s))) in
        record { left = omega arith; begun = omega arith; few = omega arith; count = omega arith }
