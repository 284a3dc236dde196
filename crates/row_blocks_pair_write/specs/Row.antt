-- A pair row in bytes by its parts, and which rows can be written. Assumes nothing.
use Rattle.std.specs.Prelude.{ℕ, ◌≡◌, true, not, List, ◌++◌, T}
use Rattle.std.specs.Float.Ieee.{is_nan}
use Rattle.le.specs.Le.{le_bytes}
use Rattle.le.specs.Field.{put32, put_i32, put_i64, put_f64}
use Rattle.double.specs.Double.{yield_ok}
use Rattle.position.specs.declared.PairRow.{PairRow}
use Rattle.book.specs.Layout.{yield_flag, yield_bytes}
use Rattle.row_blocks.specs.Blocks.{side_sign}

-- 40 bytes: the side, whether there is a yield, both local times, both prices
abbrev pub trade_bytes : PairRow → List ℕ
trade_bytes p = put_i32 (side_sign p.side) ++ put32 (yield_flag p.bp) ++ put_i64 p.opened.0 ++ put_i64 p.closed.0 ++ put_f64 p.from ++ put_f64 p.to

-- 56 bytes: the id difference, days, the yield, the lengths of the texts, the lots
abbrev pub figure_bytes : PairRow → List ℕ
figure_bytes p =
    put_i64 p.ids ++ put_f64 p.days ++ yield_bytes p.bp ++ le_bytes 8 p.symbol ++ le_bytes 8 p.mark ++ le_bytes 8 p.sequence ++ le_bytes 8 p.lots

-- the doubles of a row are numbers
pub record RowNumbers (p : PairRow) : Type 0 where
  pub from : T (not (is_nan p.from))
  pub to : T (not (is_nan p.to))
  pub days : T (not (is_nan p.days))
  pub bp : yield_ok p.bp ≡ true
