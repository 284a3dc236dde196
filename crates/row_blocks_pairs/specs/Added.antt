-- What adding a pair row to a block gives. Assumes nothing.
use Rattle.std.specs.Prelude.{ℕ, ◌-◌, ◌<◌, ◌≡◌, List, length, Option, Some, None}
use Rattle.text.specs.Read.{Put}
use Rattle.position.specs.Rows.{Pair}
use Rattle.row_blocks.specs.Blocks.{pair_row_bytes}

-- the row of p was written at `at`, or does not fit
abbrev pub AddedAs : Pair → List ℕ → List ℕ → ℕ → Option ℕ → Type 0
AddedAs p before after at (Some r) = Put before after at (pair_row_bytes p) r
AddedAs p before after at None = (length before - at < length (pair_row_bytes p)) × (after ≡ before)
