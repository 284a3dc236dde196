-- A hold row in bytes, and which rows can be written. Assumes nothing.
use Rattle.std.specs.Prelude.{ℕ, ◌≡◌, true, not, List, T}
use Rattle.std.specs.Float.Ieee.{is_nan}
use Rattle.le.specs.Le.{part}
use Rattle.double.specs.Double.{yield_ok}
use Rattle.position.specs.Rows.{hold_row}
use Rattle.position.specs.declared.HoldRow.{HoldRow}
use Rattle.book.specs.Layout.{hold_place, hold_of}
use Rattle.row_blocks.specs.Blocks.{hold_row_bytes}

-- the row of hold number i
abbrev pub row_at : List ℕ → ℕ → List ℕ
row_at b i = hold_row_bytes (hold_row (hold_of (part b (hold_place i) 32)))

-- its doubles are numbers
pub record RowNumbers (o : HoldRow) : Type 0 where
  pub price : T (not (is_nan o.price))
  pub n1b : yield_ok o.n1b ≡ true
