-- What the code's answers mean. Assumes nothing.
use Rattle.std.specs.Prelude.{ℕ, ◌+◌, ◌≤◌, ◌<◌, ◌≡◌, Bool, false, not, cond, ◌&&◌, ◌||◌, List, [], ◌∷◌, leb, eqb, length, drop}
use Rattle.text.specs.Text.{underscore}
use Rattle.text.specs.Conditions.{all_of, every}
use Rattle.table_words.specs.Words.{is_wild}

-- the conditions of `word_ok` behind the first
abbrev pub fit : ℕ → List (List ℕ) → Bool
fit n ps = all_of (leb (length ps) n ∷ every (λ p. not (is_wild p)) ps ∷ [])

-- the wildcard's second and third byte, and whether they stand side by side in a text
abbrev pub is_pair : ℕ → ℕ → Bool
is_pair a b = eqb a 0xbb && eqb b 0xbb

unfoldable pub paired : List ℕ → Bool
paired [] = false
paired (a ∷ []) = false
paired (a ∷ b ∷ l) = is_pair a b || paired (b ∷ l)

-- how often x stands in a text
unfoldable pub occurrences : ℕ → List ℕ → ℕ
occurrences x [] = 0
occurrences x (y ∷ l) = cond (eqb y x) 1 0 + occurrences x l

-- r underscores stand before i; or, where they are not fewer than limit, the text has so many
pub record Counted (s : List ℕ) (i limit r : ℕ) : Type 0 where
  pub few : r < limit → occurrences underscore s ≡ r + occurrences underscore (drop i s)
  pub many : limit ≤ r → limit ≤ occurrences underscore s
