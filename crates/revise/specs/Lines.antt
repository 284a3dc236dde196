-- "It comes as the run program's B and S lines with the revision as a last B field, at any length": the lines. Assumes nothing.
use Rattle.std.specs.Prelude.{ℕ, suc, Bool, true, cond, List, [], ◌∷◌, ◌++◌, eqb, drop}
use Rattle.text.specs.Literal.{bytes}
use Rattle.text.specs.Text.{LF, begins, onto}

-- the lines of a text, each with its LF, which the last may lack
unfoldable pub lines : List ℕ → List (List ℕ)
lines [] = []
lines (x ∷ t) = cond (eqb x LF) ((x ∷ []) ∷ lines t) (onto x (lines t))

-- whether the last line, where there is one, has its LF
unfoldable pub ended : List ℕ → Bool
ended [] = true
ended (x ∷ []) = eqb x LF
ended (x ∷ y ∷ t) = ended (y ∷ t)

-- "lines starting `B|`"
abbrev pub is_bar : List ℕ → Bool
is_bar l = begins (bytes "B|") l

abbrev pub is_signal : List ℕ → Bool
is_signal l = begins (bytes "S|") l

-- how many lines start `B|`
unfoldable pub bar_count : List (List ℕ) → ℕ
bar_count [] = 0
bar_count (l ∷ ls) = cond (is_bar l) (suc (bar_count ls)) (bar_count ls)

-- the S lines that stand first, each without its first k bytes
unfoldable pub signal_lines : ℕ → List (List ℕ) → List ℕ
signal_lines k [] = []
signal_lines k (l ∷ ls) = cond (is_signal l) (drop k l ++ signal_lines k ls) []
