-- Parts that are joined to a table's word, and a signal's key. Assumes nothing.
use Prim.Native.Nat.{ℕ, ◌+◌, ◌≤◌}
use native.Mathlib.Omega.{arith}
use mathlib.Core.Bool.{Bool, true, false, not, cond, ◌||◌}
use mathlib.Core.List.{List, [], ◌∷◌}
use mathlib.Core.Path.{◌≡◌, refl, ◌∙◌, ap}
use borrow.Author.Tests.{le-leb}
use lib.ListN.{length}
use Rattle.text.specs.Conditions.{every}
use Rattle.text.specs.Literal.{encoded, bytes}
use Rattle.text.specs.Text.{same, split, joined, underscore}
use Rattle.text.proofs.Conditions.{◌also◌, none_left, sure}
use Rattle.signal.specs.Signal.{wildcard, without_wild, key_of}
use Rattle.table_words.specs.Words.{clean, is_wild, word_ok, key_parts, value_parts}
use Rattle.table_limits.specs.Fine.{value_ok}
use Rattle.text.proofs.Every.{every_one, cons_every, every_cons}
use Rattle.text.proofs.Joined.{lacks, total, split-joined, joined_length}
use Rattle.table_limits.proofs.Parted.{joined-every}
use Rattle.table_limits.proofs.Lines.{clean_parted}

-- a part that is not the wildcard
abbrev tame : List ℕ → Bool
tame p = not (is_wild p)

-- ---- a word of parts

-- no part at all is one empty part
unfoldable parts : List (List ℕ) → List (List ℕ)
parts [] = [] ∷ []
parts (p ∷ ps) = p ∷ ps

parts-joined : (ps : List (List ℕ)) → every (lacks underscore) ps ≡ true → split underscore (joined (underscore ∷ []) ps) ≡ parts ps
unfolding parts split joined
parts-joined [] e = refl
parts-joined (p ∷ ps) e = split-joined underscore p ps e

parts-few : (n : ℕ) (ps : List (List ℕ)) → 1 ≤ n → length ps ≤ n → length (parts ps) ≤ n
unfolding parts
parts-few n [] h k = h
parts-few n (p ∷ ps) h k = k

parts_tame : (ps : List (List ℕ)) → every tame ps ≡ true → every tame (parts ps) ≡ true
unfolding parts every same wildcard bytes encoded
parts_tame [] e = refl
parts_tame (p ∷ ps) e = e

word-joined : (n : ℕ) (ps : List (List ℕ)) → 1 ≤ n → length ps ≤ n → every clean ps ≡ true → every (lacks underscore) ps ≡ true → every tame ps ≡ true
    → word_ok n (joined (underscore ∷ []) ps) ≡ true
unfolding word_ok
word-joined n ps h k c l t =
    rw (parts-joined ps l)
    (sure ((joined-every clean_parted ps ∙ c) also le-leb (length (parts ps)) n (parts-few n ps h k) also parts_tame ps t also none_left))

-- ---- values

pub value-ok : (v : List ℕ) → clean v ≡ true → lacks underscore v ≡ true → value_ok v ≡ true
unfolding joined
value-ok v c l = go (is_wild v) refl
  where
    go : (t : Bool) → is_wild v ≡ t → (t || word_ok value_parts v) ≡ true
    go true e = refl
    go false e =
        word-joined value_parts (v ∷ []) (omega arith) (omega arith) (every_one clean v ∙ c) (every_one (lacks underscore) v ∙ l) (every_one tame v ∙ ap not e)

-- ---- keys

-- what each part has, those that are not the wildcard have
without_every : (f : List ℕ → Bool) (ps : List (List ℕ)) → every f ps ≡ true → every f (without_wild ps) ≡ true
unfolding without_wild
without_every f [] e = e
without_every f (p ∷ ps) e = go (is_wild p) (without_every f ps (every_cons f p ps e).1)
  where
    go : (t : Bool) → every f (without_wild ps) ≡ true → every f (cond t (without_wild ps) (p ∷ without_wild ps)) ≡ true
    go true h = h
    go false h = cons_every f p (without_wild ps) (every_cons f p ps e).0 h

without_tame : (ps : List (List ℕ)) → every tame (without_wild ps) ≡ true
unfolding without_wild every
without_tame [] = refl
without_tame (p ∷ ps) = go (is_wild p) refl (without_tame ps)
  where
    go : (t : Bool) → is_wild p ≡ t → every tame (without_wild ps) ≡ true → every tame (cond t (without_wild ps) (p ∷ without_wild ps)) ≡ true
    go true e h = h
    go false e h = cons_every tame p (without_wild ps) (ap not e) h

without_few : (ps : List (List ℕ)) → (length (without_wild ps) ≤ length ps) × (total (without_wild ps) ≤ total ps)
unfolding without_wild total
without_few [] = (omega arith, omega arith)
without_few (p ∷ ps) = go (is_wild p) (without_few ps)
  where
    go : (t : Bool) → (length (without_wild ps) ≤ length ps) × (total (without_wild ps) ≤ total ps)
        → (length (cond t (without_wild ps) (p ∷ without_wild ps)) ≤ length (p ∷ ps)) × (total (cond t (without_wild ps) (p ∷ without_wild ps)) ≤ total (p ∷ ps))
    go true h = (omega arith, omega arith)
    go false h = (omega arith, omega arith)

module _ (a b c : List ℕ) where
  abbrev three : List (List ℕ)
  three = a ∷ b ∷ c ∷ []

  pub key-ok : every clean three ≡ true → every (lacks underscore) three ≡ true → word_ok key_parts (key_of a b c) ≡ true
  unfolding key_of
  key-ok h k =
      word-joined key_parts (without_wild three) (omega arith) (without_few three).0 (without_every clean three h) (without_every (lacks underscore) three k)
      (without_tame three)
