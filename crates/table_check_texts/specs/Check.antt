-- What the check of texts knows and answers on its way. Assumes nothing.
use Rattle.std.specs.Prelude.{ℕ, Bool, List, [], ◌∷◌, map, drop}
use Rattle.text.specs.Conditions.{all_of, every}
use Rattle.table_words.specs.Read.{is_cut}
use Rattle.table_words.specs.Words.{clean}
use Rattle.table.specs.Layout.{Parts}

-- s may be cut at each of the places
abbrev pub all_cut : List ℕ → List ℕ → Bool
all_cut s cs = all_of (map (λ c. is_cut (drop c s)) cs)

-- what stands one after another in a table is clean; of the names, the key texts and the value texts this follows from `parts_ok`
unfoldable pub texts_ok : Parts → Bool
texts_ok p = every clean (p.name ∷ p.symbol ∷ p.names ∷ p.keytexts ∷ p.valuetexts ∷ [])
