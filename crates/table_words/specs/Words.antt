-- The texts of a table: which may stand in it, which may be keys and values, and when these are distinct. Assumes nothing.
use Rattle.std.specs.Prelude.{ℕ, ◌+◌, Bool, true, false, not, cond, ◌&&◌, List, [], ◌∷◌, leb, ltb, eqb, length, get_or}
use Rattle.text.specs.Text.{same, has, split, LF, pipe, underscore}
use Rattle.text.specs.Conditions.{all_of, every, any_of}
use Rattle.utf8.specs.Utf8.{utf8}
use Rattle.signal.specs.Signal.{wildcard}

-- "texts are UTF-8 free of `|` and LF"
unfoldable pub clean : List ℕ → Bool
clean l = all_of (utf8 l ∷ not (has pipe l) ∷ not (has LF l) ∷ [])

abbrev pub is_wild : List ℕ → Bool
is_wild p = same p wildcard

-- at most n parts between underscores, none of them the wildcard
unfoldable pub word_ok : ℕ → List ℕ → Bool
word_ok n l = let ps = split underscore l in all_of (clean l ∷ leb (length ps) n ∷ every (λ p. not (is_wild p)) ps ∷ [])

-- "keys hold at most two underscores and values none, no key part or value is the wildcard"
abbrev pub key_parts : ℕ
key_parts = 3

abbrev pub value_parts : ℕ
value_parts = 1

-- ---- "keys and values are distinct"

unfoldable pub distinct : List (List ℕ) → Bool
distinct [] = true
distinct (d ∷ ds) = not (any_of (same d) ds) && distinct ds

-- a stands before b, byte by byte
unfoldable pub less : List ℕ → List ℕ → Bool
less [] [] = false
less [] (y ∷ b) = true
less (x ∷ a) [] = false
less (x ∷ a) (y ∷ b) = cond (eqb x y) (less a b) (ltb x y)

-- The layout's own help to see that they are distinct without comparing all with all: `order` lists the words' numbers by rising text,
-- and a word's rank is where `order` has its number.
unfoldable pub ascending : List (List ℕ) → List ℕ → Bool
ascending texts [] = true
ascending texts (a ∷ []) = true
ascending texts (a ∷ b ∷ os) = less (get_or texts a []) (get_or texts b []) && ascending texts (b ∷ os)

unfoldable pub ranked : List ℕ → ℕ → List ℕ → Bool
ranked os i [] = true
ranked os i (r ∷ rs) = cond (ltb r (length os) && eqb (get_or os r 0) i) (ranked os (i + 1) rs) false

unfoldable pub ordered : List (List ℕ) → List ℕ → List ℕ → Bool
ordered texts os rs = all_of (every (λ o. ltb o (length texts)) os ∷ ranked os 0 rs ∷ ascending texts os ∷ [])
