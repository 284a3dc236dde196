-- What is known of a book that holds something, before its fields are checked. Assumes nothing.
use Rattle.std.specs.Prelude.{ℕ, ◌+◌, ◌*◌, ◌≤◌, ◌≡◌, List, length}
use Rattle.le.specs.Field.{u32}

-- b has hs holds, at least one, and room for them
pub record Used (b : List ℕ) (hs : ℕ) : Type 0 where
  pub counted : hs ≡ u32 b 0
  pub least : 1 ≤ hs
  pub room : 96 + 32 * hs ≤ length b
