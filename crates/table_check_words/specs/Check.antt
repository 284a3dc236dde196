-- What the check of keys or of values knows and answers on its way, word by word. Assumes nothing.
use Rattle.std.specs.Prelude.{ℕ, ◌+◌, ◌*◌, ◌≤◌, ◌<◌, Bool, List, [], ◌∷◌, map, leb, ltb, eqb, length, drop}
use Rattle.list.specs.Numbered.{rows}
use Rattle.text.specs.Conditions.{all_of, every}
use Rattle.table_words.specs.Words.{word_ok, ranked}
use Rattle.table.specs.Layout.{word_length, word_in, word_text}
use Rattle.table.specs.Table.{follow}
use Rattle.table.specs.declared.WordRow.{WordRow}

-- the first n rows of l
abbrev pub word_rows : ℕ → List ℕ → List WordRow
word_rows n l = rows word_in word_length n l

-- word number j of the rows l
abbrev pub word_at : List ℕ → ℕ → WordRow
word_at l j = word_in (drop (word_length * j) l)

abbrev pub texts_of : List ℕ → List WordRow → List (List ℕ)
texts_of texts ws = map (word_text texts) ws

abbrev pub orders_of : List WordRow → List ℕ
orders_of ws = map (λ w. w.order) ws

abbrev pub ranks_of : List WordRow → List ℕ
ranks_of ws = map (λ w. w.rank) ws

-- what is asked of a word of at most n parts whose text must start at f
abbrev pub word_asked : ℕ → List ℕ → WordRow → ℕ → List Bool
word_asked n texts w f = eqb w.at f ∷ leb (w.at + w.len) (length texts) ∷ word_ok n (word_text texts w) ∷ []

-- words of at most n parts, which follow each other in the texts from f on
unfoldable pub laid : ℕ → List ℕ → ℕ → List WordRow → Bool
laid n texts f ws = all_of (follow (λ w. w.at) (λ w. w.len) f (length texts) ws ∷ every (word_ok n) (texts_of texts ws) ∷ [])

-- what is asked of the order and the rank of word number i of n
abbrev pub rank_asked : List ℕ → ℕ → ℕ → List Bool
rank_asked l n i = ltb (word_at l i).order n ∷ ltb (word_at l i).rank n ∷ eqb (word_at l (word_at l i).rank).order i ∷ []

-- the conditions of `ordered` but the last, on words from number i on; os are the orders of all
unfoldable pub ranks_from : List ℕ → ℕ → List WordRow → Bool
ranks_from os i ws = all_of (every (λ o. ltb o (length os)) (orders_of ws) ∷ ranked os i (ranks_of ws) ∷ [])

-- each of n words has its text within the texts, and an order below n
pub record Inside (l texts : List ℕ) (n : ℕ) : Type 0 where
  pub room : word_length * n ≤ length l
  pub text : (j : ℕ) → j < n → (word_at l j).at + (word_at l j).len ≤ length texts
  pub order : (j : ℕ) → j < n → (word_at l j).order < n
