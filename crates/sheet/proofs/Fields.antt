-- The fields of a line, one after another, and its tag. Assumes nothing.
use Prim.Native.Nat.{ℕ, suc, ◌+◌, ◌-◌, ◌<◌, ◌≤◌}
use native.Mathlib.Omega.{arith}
use native.Mathlib.Decide.{dec_lt}
use mathlib.Core.Path.{◌≡◌, ◌∙◌, refl, ap}
use mathlib.Core.Logic.{◌≢◌}
use mathlib.Core.Bool.{Bool, true, false, cond, ◌&&◌}
use mathlib.Core.List.{List, [], ◌∷◌}
use borrow.Author.Tests.{ne_eqb, lt-ltb, le-ltb}
use lib.Dec.{eqb}
use lib.ListN.{length, get_or}
use lib.Seq.{slice}
use Rattle.text.specs.Text.{same, split, onto, pipe}
use Rattle.text.specs.Read.{Part, FirstAt}
use Rattle.text.proofs.Laws.{part_cons}
use Rattle.text.proofs.Cut.{split_one, CutAt, cut}
use Rattle.text.proofs.Parts.{onto-count, split_some, split-next, split-last}
use Rattle.sheet.specs.Places.{fields_of, behind}

-- ---- how many

pub split-few : (b : ℕ) (l : List ℕ) → length (split b l) ≤ length l + 1
unfolding split
split-few b [] = omega arith
split-few b (x ∷ t) = go (eqb x b) (split-few b t)
  where
    go : (e : Bool) → length (split b t) ≤ length t + 1 → length (cond e ([] ∷ split b t) (onto x (split b t))) ≤ suc (length t) + 1
    go true h = omega arith
    go false h = omega (arith, onto-count x (split b t) (split_some b t))

-- the field that ends at r, and n fields behind it
abbrev pub Cut : List ℕ → ℕ → ℕ → ℕ → ℕ → Type 0
Cut s from to r n = CutAt pipe s from to r n

pub last_field : (s : List ℕ) (from to : ℕ) → length (fields_of s from to) ≡ 1 → fields_of s from to ≡ slice from to s ∷ []
last_field s from to h = split_one pipe (slice from to s) h

-- the field that ends at r, with others behind it
abbrev pub Field : List ℕ → ℕ → ℕ → ℕ → Type 0
Field s from to r = Cut s from to r (length (fields_of s from to) - 1)

pub field : {s : List ℕ} {from to r : ℕ} → Part s from to → FirstAt s from to pipe r → 2 ≤ length (fields_of s from to) → Field s from to r
field p f h = cut p f (omega arith) (omega arith)

-- the last field, or the last but one and the one behind it
pub record LastTwo (s : List ℕ) (from to r : ℕ) : Type 0 where
  pub fields : fields_of s from to ≡ slice from r s ∷ behind s r to
  pub rest : Part s r to

pub last_two : {s : List ℕ} {from to r : ℕ} → Part s from to → FirstAt s from to pipe r → length (fields_of s from to) ≤ 2 → LastTwo s from to r
last_two {s} {from} {to} {r} p f h = record {
  fields = elim (dec_lt r to) [ yes l ↦ more l | no l ↦ one (omega (arith, f.high)) ];
  rest = record { order = f.high; within = p.within };
}
  where
    more : r < to → fields_of s from to ≡ slice from r s ∷ behind s r to
    more l =
        let e = split-next p f l in
        e ∙ rw (lt-ltb r to l, last_field s (r + 1) to (omega (arith, ap length e, split_some pipe (slice (r + 1) to s)))) refl

    one : r ≡ to → fields_of s from to ≡ slice from r s ∷ behind s r to
    one e = split-last p f e ∙ rw (le-ltb r to (omega arith), e)

-- ---- tags

-- a tag that starts with another byte
pub tag_other : (x a : ℕ) (t : List ℕ) → a ≢ x → same (get_or (split pipe (a ∷ t)) 0 []) (x ∷ []) ≡ false
unfolding split onto same
tag_other x a t h = go (eqb a pipe) (split pipe t)
  where
    go : (e : Bool) (ps : List (List ℕ)) → same (get_or (cond e ([] ∷ ps) (onto a ps)) 0 []) (x ∷ []) ≡ false
    go true ps = refl
    go false [] = rw (ne_eqb a x h)
    go false (p ∷ ps) = rw (ne_eqb a x h)

-- a tag of two bytes or more
pub tag_long : (x a b : ℕ) (t : List ℕ) → b ≢ pipe → same (get_or (split pipe (a ∷ b ∷ t)) 0 []) (x ∷ []) ≡ false
unfolding split onto same
tag_long x a b t h = rw (ne_eqb b pipe h) (go (eqb a pipe) (split pipe t))
  where
    and_false : (e : Bool) → (e && false) ≡ false
    and_false true = refl
    and_false false = refl

    go : (e : Bool) (ps : List (List ℕ)) → same (get_or (cond e ([] ∷ onto b ps) (onto a (onto b ps))) 0 []) (x ∷ []) ≡ false
    go true ps = refl
    go false [] = and_false (eqb a x)
    go false (p ∷ ps) = and_false (eqb a x)

-- the first two bytes of a line
pub two_first : {s : List ℕ} {from to : ℕ} → Part s from to → from + 2 ≤ to → slice from to s ≡ get_or s from 0 ∷ get_or s (from + 1) 0 ∷ slice (from + 2) to s
two_first {s} {from} {to} p h =
    let e : from + 1 + 1 ≡ from + 2 = omega arith in
    part_cons from to s (omega arith) p.within ∙ ap (λ l. get_or s from 0 ∷ l) (part_cons (from + 1) to s (omega arith) p.within ∙ rw e)
