-- What the code's answers mean. Assumes nothing.
use Rattle.std.specs.Prelude.{ℕ, ◌≤◌, ◌≡◌, cond, List, length, drop}
use Rattle.std.specs.declared.cmp.Ordering.{Ordering}
use Rattle.std.specs.declared.cmp.Ordering.TheVariants.{Less, Equal, Greater}
use Rattle.text.specs.Text.{same}
use Rattle.table_words.specs.Words.{less}

-- how a stands to b
unfoldable pub order_of : List ℕ → List ℕ → Ordering
order_of a b = cond (less a b) Less (cond (same a b) Equal Greater)

-- from i to j the texts a and b are the same, so that how they stand to each other is how the rest does
pub record Level (a b : List ℕ) (i j : ℕ) : Type 0 where
  pub le : j ≤ length a
  pub also : j ≤ length b
  pub still : order_of (drop i a) (drop i b) ≡ order_of (drop j a) (drop j b)
