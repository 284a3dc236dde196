-- Two texts with a separator between them, and the loop that looks for the last `|`. Assumes nothing.
use Prim.Native.Nat.{ℕ, ◌+◌, ◌-◌, ◌<◌, ◌≤◌}
use native.Mathlib.Omega.{arith}
use mathlib.Core.Bool.{Bool, true, false, cond}
use mathlib.Core.List.{List, [], ◌∷◌, ◌++◌}
use mathlib.Core.Logic.{◌≢◌}
use mathlib.Core.Path.{◌≡◌, refl, sym, ◌∙◌, ap}
use borrow.Author.Tests.{eq-eqb, ne_eqb}
use lib.Dec.{eqb}
use lib.ListN.{length, get_or}
use lib.Seq.{slice, slice_empty}
use Rattle.text.specs.Conditions.{every}
use Rattle.text.specs.Read.{Part}
use Rattle.text.specs.Text.{pipe, has, onto, split, joined}
use Rattle.text.proofs.Joined.{split-joined}
use Rattle.text.proofs.Laws.{part_cons}
use Rattle.text.proofs.Parts.{split_some}
use Rattle.revise.proofs.Lines.{part_two}
use Rattle.revise_first.specs.First.{LastPipe}

-- ---- split

onto-append : (a : ℕ) (ps qs : List (List ℕ)) → 1 ≤ length ps → onto a (ps ++ qs) ≡ onto a ps ++ qs
unfolding onto
onto-append a [] qs h = absurd (omega arith)
onto-append a (p ∷ ps) qs h = refl

-- the parts before a separator, then those behind it
pub split-append : (b : ℕ) (x y : List ℕ) → split b (x ++ b ∷ y) ≡ split b x ++ split b y
unfolding split
split-append b [] y = rw (eq-eqb b b refl)
split-append b (a ∷ x) y = go (eqb a b) (split-append b x y)
  where
    go : (t : Bool) → split b (x ++ b ∷ y) ≡ split b x ++ split b y
        → cond t ([] ∷ split b (x ++ b ∷ y)) (onto a (split b (x ++ b ∷ y))) ≡ cond t ([] ∷ split b x) (onto a (split b x)) ++ split b y
    go true ih = ap (λ ps. [] ∷ ps) ih
    go false ih = ap (onto a) ih ∙ onto-append a (split b x) (split b y) (split_some b x)

-- without a separator it is one part
pub split_lack : (b : ℕ) (x : List ℕ) → has b x ≡ false → split b x ≡ x ∷ []
unfolding every joined
split_lack b x e = split-joined b x [] (rw e)

-- ---- `last_pipe`

-- no `|` stands from i on
pub record Looking (s : List ℕ) (from to i : ℕ) : Type 0 where
  pub begun : from ≤ i
  pub le : i ≤ to
  pub within : to ≤ length s
  pub lacks : has pipe (slice i to s) ≡ false

pub looking_first : {s : List ℕ} {from to : ℕ} → Part s from to → Looking s from to to
unfolding has
looking_first {s} {from} {to} p = record { begun = p.order; le = omega arith; within = p.within; lacks = rw (slice_empty to s) }

module _ {s : List ℕ} {from to i : ℕ} (l : Looking s from to i) where
  -- there must be one
  pub looking_last : i ≤ from → 2 ≤ length (split pipe (slice from to s)) → LastPipe s from to from
  looking_last h k =
      let e : from ≡ i = omega (arith, l.begun) in
      let one : length (split pipe (slice from to s)) ≡ 1 = ap length (split_lack pipe (slice from to s) (rw e l.lacks)) in
      absurd (omega arith)

  module _ (h : from < i) where
    next : slice (i - 1) to s ≡ get_or s (i - 1) 0 ∷ slice (i - 1 + 1) to s
    next = part_cons (i - 1) to s (omega (arith, l.le)) l.within

    behind : has pipe (slice (i - 1 + 1) to s) ≡ false
    behind =
        let e : i - 1 + 1 ≡ i = omega arith in
        rw e l.lacks

    pub looking_found : get_or s (i - 1) 0 ≡ pipe → LastPipe s from to (i - 1)
    looking_found e = record {
      low = omega arith;
      high = omega (arith, l.le);
      fields =
          ap (split pipe) (part_two from (i - 1) to s (omega arith) (omega (arith, l.le)) l.within ∙ ap (λ t. slice from (i - 1) s ++ t) (next ∙ rw e))
          ∙ split-append pipe (slice from (i - 1) s) (slice (i - 1 + 1) to s)
          ∙ ap (λ ps. split pipe (slice from (i - 1) s) ++ ps) (split_lack pipe (slice (i - 1 + 1) to s) behind);
    }

    pub looking_more : get_or s (i - 1) 0 ≢ pipe → Looking s from to (i - 1)
    unfolding has
    looking_more n = record { begun = omega arith; le = omega (arith, l.le); within = l.within; lacks = rw (next, has, ne_eqb _ _ n) behind }
