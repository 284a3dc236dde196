-- Block rows (beyond 01): many rows of a book after one full check, and how many it has. Assumes nothing.
use Rattle.std.specs.Prelude.{ℕ, ◌+◌, ◌-◌, cond, leb, ℤ, pos, negsuc, length, drop}
use mathlib.Core.List.{List, [], ◌∷◌, ◌++◌, map, flatten}
use Rattle.le.specs.Le.{patch, le_bytes}
use Rattle.le.specs.Field.{put32, put_i32, put_i64, put_f64}
use Rattle.text.specs.Answer.{Answer, Refused, Got, ◌>>=◌, must, given}
use Rattle.double.specs.declared.Side.{Side}
use Rattle.double.specs.declared.Side.TheVariants.{Long, Short}
use Rattle.sheet.specs.Sheet.{Sheet}
use Rattle.position.specs.Rows.{Pair, pairs_of, hold_rows}
use Rattle.position.specs.declared.HoldRow.{HoldRow}
use Rattle.book.specs.Layout.{yield_flag, yield_bytes, records_of, holds_of}
use Rattle.book.specs.Calls.{sized, checked}
use Rattle.row.specs.Calls.{row_buffer, row_at, pair_text}
use Rattle.row_blocks.specs.declared.Block.{Block}
use Rattle.row_blocks.specs.declared.RowCounts.{RowCounts}

-- ---- a row in bytes, little-endian

-- 32 bytes: i64 local time, i32 -1, 0 or 1, u32 yield present, price, yield (zeros where it is absent)
unfoldable pub hold_row_bytes : HoldRow → List ℕ
hold_row_bytes o = put_i64 o.local.0 ++ put_i32 o.pos ++ put32 (yield_flag o.n1b) ++ put_f64 o.price ++ yield_bytes o.n1b

abbrev pub hold_row_length : ℕ
hold_row_length = 32

-- "L or S"
abbrev pub side_sign : Side → ℤ
side_sign Long = pos 1
side_sign Short = negsuc 0

-- 96 bytes: i32 side, u32 yield present, i64 both local times, both prices; i64 id difference, days, yield (zeros where it is absent), u64
-- lengths of symbol, mark and sequence, u64 lots. Then these texts, as the single call writes them.
unfoldable pub pair_row_bytes : Pair → List ℕ
pair_row_bytes p =
    (put_i32 (side_sign p.side) ++ put32 (yield_flag p.yield) ++ put_i64 p.open_local.0 ++ put_i64 p.close_local.0 ++ put_f64 p.open_price ++ put_f64 p.close_price)
    ++ (put_i64 p.ids ++ put_f64 p.days ++ yield_bytes p.yield ++ le_bytes 8 (length p.symbol) ++ le_bytes 8 (length p.mark) ++ le_bytes 8 (length p.sequence) ++ le_bytes 8 p.lots)
    ++ pair_text p

-- the most bytes of a pair row: its texts fit a row buffer
abbrev pub pair_row_limit : ℕ
pair_row_limit = 96 + row_buffer

-- ---- a block

-- as many whole rows as fit in so many bytes: none behind the first that does not
unfoldable pub fitting : ℕ → List (List ℕ) → List (List ℕ)
fitting room [] = []
fitting room (r ∷ rs) = let later = fitting (room - length r) rs in cond (leb (length r) room) (r ∷ later) []

-- the rows from number i on
abbrev pub rows_from : {X : Type 0} → List X → ℤ → List X
rows_from rows (pos i) = drop i rows
rows_from rows (negsuc i) = []

-- 15 where there is no row number i; then those from it on that fit
abbrev pub block_from : List (List ℕ) → ℤ → ℕ → Answer (List (List ℕ))
block_from rows i room = given 15 (row_at rows i) >>= λ _. Got (fitting room (rows_from rows i))

-- 8 (a buffer that may not hold a row of at most so many bytes, too), 9, 10, 15. The rows are those of a book of so many bars, by the sheet.
unfoldable pub block_do : ℕ → (ℕ → Sheet → List (List ℕ)) → List ℕ → List ℕ → ℤ → List ℕ → Answer (List (List ℕ))
block_do limit rows table b i out = do
  c ← sized table b
  _ ← must 8 (leb limit (length out))
  s ← checked table c b
  block_from (rows c s) i (length out)

-- all hold rows and all pair rows of a book
abbrev pub hold_block : List ℕ → List (List ℕ)
hold_block b = map hold_row_bytes (hold_rows (holds_of b))

abbrev pub pair_block : Sheet → ℕ → List ℕ → List (List ℕ)
pair_block s c b = map pair_row_bytes (pairs_of s (records_of c b))

abbrev pub hold_block_do : List ℕ → List ℕ → ℤ → List ℕ → Answer (List (List ℕ))
hold_block_do table b i out = block_do hold_row_length (λ c s. hold_block b) table b i out

abbrev pub pair_block_do : List ℕ → List ℕ → ℤ → List ℕ → Answer (List (List ℕ))
pair_block_do table b i out = block_do pair_row_limit (λ c s. pair_block s c b) table b i out

-- how many they are, and the length of their bytes
abbrev pub block_of : List (List ℕ) → Block
block_of rows = record { rows = length rows; length = length (flatten rows) }

-- the rows one after another at the start of the buffer, the later bytes kept
abbrev pub block_bytes : List ℕ → Answer (List (List ℕ)) → List ℕ
block_bytes out (Refused n) = out
block_bytes out (Got rows) = patch out 0 (flatten rows)

-- ---- the counts: 8, 9, 10

unfoldable pub counts_do : List ℕ → List ℕ → Answer RowCounts
counts_do table b = do
  c ← sized table b
  s ← checked table c b
  Got (record { holds = length (hold_rows (holds_of b)); pairs = length (pairs_of s (records_of c b)) })
