-- Laws of `each_line`: one line more is read up to the LF that was found, the last LF is missing, or no line is left. Assumes nothing.
use mathlib.Core.Path.{◌≡◌, refl}
use mathlib.Core.List.{List, [], ◌∷◌}
use Prim.Native.Nat.{ℕ, ◌+◌, ◌≤◌, ◌<◌}
use native.Mathlib.Omega.{arith}
use lib.ListN.{length}
use lib.Seq.{slice, length-slice}
use Rattle.text.specs.Answer.{Answer, Refused, Got, ◌>>=◌}
use Rattle.text.specs.Text.{LF, pipe, split, each_line}
use Rattle.text.specs.Read.{Part, FirstAt}
use Rattle.text.proofs.Laws.{part_nil}
use Rattle.text.proofs.Parts.{split_some, split-next, split-last}

-- the lines of s from a place on
abbrev pub lines_from : {X : Type 0} → (X → List (List ℕ) → Answer X) → X → List ℕ → ℕ → Answer X
lines_from f x s i = each_line f x (split LF (slice i (length s) s))

module _ {X : Type 0} (f : X → List (List ℕ) → Answer X) (x : X) where
  -- a part with others behind it is a line
  line-more : (p : List ℕ) (ps : List (List ℕ)) → 1 ≤ length ps → each_line f x (p ∷ ps) ≡ (f x (split pipe p) >>= λ y. each_line f y ps)
  unfolding each_line
  line-more p [] h = absurd (omega arith)
  line-more p (q ∷ ps) h = refl

  line-cut : (p : List ℕ) → 1 ≤ length p → each_line f x (p ∷ []) ≡ Refused 2
  unfolding each_line
  line-cut [] h = absurd (omega arith)
  line-cut (b ∷ p) h = refl

  line-none : each_line f x ([] ∷ []) ≡ Got x
  unfolding each_line
  line-none = refl

  split-none : split LF [] ≡ [] ∷ []
  unfolding split
  split-none = refl

  -- no line is left
  pub lines_end : (s : List ℕ) (i : ℕ) → length s ≤ i → lines_from f x s i ≡ Got x
  lines_end s i h = rw (part_nil i (length s) s h, split-none) line-none

  module _ {s : List ℕ} {i r : ℕ} (p : Part s i (length s)) (g : FirstAt s i (length s) LF r) where
    -- "A missing last LF counts at its line" (2).
    pub lines_cut : i < length s → r ≡ length s → lines_from f x s i ≡ Refused 2
    lines_cut h e = rw (split-last p g e) (line-cut (slice i (length s) s) (omega (arith, length-slice i (length s) s p.within)))

    -- one line more
    pub lines_next : r < length s → lines_from f x s i ≡ (f x (split pipe (slice i r s)) >>= λ y. lines_from f y s (r + 1))
    lines_next h = rw (split-next p g h) (line-more (slice i r s) (split LF (slice (r + 1) (length s) s)) (split_some LF (slice (r + 1) (length s) s)))
