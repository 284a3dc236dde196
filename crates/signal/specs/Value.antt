-- A bar's value. Assumes nothing.
use Rattle.std.specs.Prelude.{cond, List, [], ℕ, eqb, ℤ, length, get_or, Option, None, Some}
use Rattle.text.specs.Text.{split, underscore}
use Rattle.text.specs.Number.{i32_of}

-- what a bar's value says
pub record Value : Type 0 where
  pub v1 : List ℕ
  pub v2 : List ℕ
  pub v3 : List ℕ
  pub score : ℤ

-- the parts with a score that was read
abbrev pub valued : List ℕ → List ℕ → List ℕ → Option ℤ → Option Value
valued a b c None = None
valued a b c (Some n) = Some (record { v1 = a; v2 = b; v3 = c; score = n })

-- "A value counts when it has exactly four parts and its last reads as i32"
unfoldable pub value_of : List ℕ → Option Value
value_of s = let ps = split underscore s in cond (eqb (length ps) 4) (valued (get_or ps 0 []) (get_or ps 1 []) (get_or ps 2 []) (i32_of (get_or ps 3 []))) None
