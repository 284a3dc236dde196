-- The keys and values that clauses use, each listed once in the order of first use, and the numbers by which the clauses then name them. Assumes nothing.
use Rattle.std.specs.Prelude.{ℕ, ◌+◌, cond, List, [], ◌∷◌, map}
use Rattle.sheet.specs.Sheet.{Clause}
use Rattle.table_words.specs.Words.{is_wild}
use Rattle.table.specs.Table.{wild_code}
use Rattle.table_wordbook.specs.Wordbook.{number_of, noted}

-- the keys of clauses, and the three values of each
abbrev pub keys_in : List Clause → List (List ℕ)
keys_in cs = map (λ c. c.signal.key) cs

unfoldable pub values_in : List Clause → List (List ℕ)
values_in [] = []
values_in (c ∷ cs) = c.signal.v1 ∷ c.signal.v2 ∷ c.signal.v3 ∷ values_in cs

-- ---- "in order of first use"

-- ws and then those of ks that are new
unfoldable pub noted_all : List (List ℕ) → List (List ℕ) → List (List ℕ)
noted_all ws [] = ws
noted_all ws (k ∷ ks) = noted_all (noted k ws) ks

-- the number of each of ks, where ws are listed before them
unfoldable pub numbers_of : List (List ℕ) → List (List ℕ) → List ℕ
numbers_of ws [] = []
numbers_of ws (k ∷ ks) = number_of k ws ∷ numbers_of (noted k ws) ks

-- "The wildcard has code -1 .. known ones 1 upward": ws with a value that is not wild, and its code
abbrev pub value_noted : List ℕ → List (List ℕ) → List (List ℕ)
value_noted v ws = cond (is_wild v) ws (noted v ws)

abbrev pub code_of : List ℕ → List (List ℕ) → ℕ
code_of v ws = cond (is_wild v) wild_code (number_of v ws + 1)

unfoldable pub values_noted : List (List ℕ) → List (List ℕ) → List (List ℕ)
values_noted ws [] = ws
values_noted ws (v ∷ vs) = values_noted (value_noted v ws) vs

unfoldable pub codes_of : List (List ℕ) → List (List ℕ) → List ℕ
codes_of ws [] = []
codes_of ws (v ∷ vs) = code_of v ws ∷ codes_of (value_noted v ws) vs
