-- What the full check gives of the holds of a book. Assumes nothing.
use Rattle.std.specs.Prelude.{ℕ, ◌≤◌, ◌≡◌, true, List, length}
use Rattle.le.specs.Field.{u32}
use Rattle.text.specs.Conditions.{every}
use Rattle.book.specs.Layout.{hold_place, hold_slots}
use Rattle.book.specs.Check.{hold_ok}

-- they lie within it, each in range
pub record Held (b : List ℕ) : Type 0 where
  pub room : hold_place (u32 b 0) ≤ length b
  pub each : every hold_ok (hold_slots b) ≡ true
