-- What the code's answers mean. Assumes nothing.
use Rattle.std.specs.Prelude.{ℕ, Bool, true, not, List, [], ◌∷◌}
use Rattle.text.specs.Text.{has, LF, pipe}
use Rattle.text.specs.Conditions.{all_of}
use Rattle.utf8.specs.Utf8.{inside, utf8_tail}

-- the conditions of `clean` behind the first
abbrev pub plain : List ℕ → Bool
plain l = all_of (not (has pipe l) ∷ not (has LF l) ∷ [])

-- a text may be cut in front of l: no tail of a character stands there
abbrev pub is_cut : List ℕ → Bool
is_cut [] = true
is_cut (b ∷ l) = not (inside utf8_tail b)
