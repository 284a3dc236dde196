-- Row requests: the number, the values and the row buffer at exit, for every input. Assumes nothing.
use Rattle.std.specs.Prelude.{ℕ, List, ◌++◌, map, leb, eqb, ℤ, pos, negsuc, length, Option, None, slice_get}
use Rattle.le.specs.Le.{patch}
use Rattle.text.specs.Answer.{Answer, Refused, Got, ◌>>=◌, must, given}
use Rattle.sheet.specs.Sheet.{name_limit}
use Rattle.table.specs.Layout.{table_length}
use Rattle.table.specs.Table.{read_table}
use Rattle.position.specs.Rows.{Pair, pairs_of, hold_rows}
use Rattle.position.specs.declared.PairRow.{PairRow}
use Rattle.position.specs.declared.HoldRow.{HoldRow}
use Rattle.book.specs.Layout.{records_of, holds_of}
use Rattle.book.specs.Calls.{sized, checked}

-- "a row buffer of at least 2,048 bytes"
abbrev pub row_buffer : ℕ
row_buffer = 2048

-- "row index, from 0, past the last" (15); one below 0 is no row either
abbrev pub row_at : {X : Type 0} → List X → ℤ → Option X
row_at rows (pos i) = slice_get rows i
row_at rows (negsuc i) = None

-- "Rows: 8, 9, 10, 15." "row buffer short" (8)
unfoldable pub pair_do : List ℕ → List ℕ → ℤ → List ℕ → Answer Pair
pair_do table b i buffer = do
  c ← sized table b
  _ ← must 8 (leb row_buffer (length buffer))
  s ← checked table c b
  given 15 (row_at (pairs_of s (records_of c b)) i)

-- "A pair's symbol, mark and sequence go one after another to the start of a row buffer .., their lengths returned and the later bytes kept."
abbrev pub pair_text : Pair → List ℕ
pair_text p = p.symbol ++ p.mark ++ p.sequence

abbrev pub pair_bytes : List ℕ → Answer Pair → List ℕ
pair_bytes buffer (Refused n) = buffer
pair_bytes buffer (Got p) = patch buffer 0 (pair_text p)

-- "their lengths returned": a pair's values, and of its texts the lengths
abbrev pub pair_row : Pair → PairRow
pair_row p =
    record {
      side = p.side;
      opened = p.open_local;
      closed = p.close_local;
      from = p.open_price;
      to = p.close_price;
      ids = p.ids;
      days = p.days;
      bp = p.yield;
      symbol = length p.symbol;
      mark = length p.mark;
      sequence = length p.sequence;
      lots = p.lots;
    }

unfoldable pub hold_do : List ℕ → List ℕ → ℤ → Answer HoldRow
hold_do table b i = do
  c ← sized table b
  _ ← checked table c b
  given 15 (row_at (hold_rows (holds_of b)) i)

-- An event's name by its index, so that a feed's decision can be read: 8 (table, or a buffer that may not hold a name), 9, 15.
unfoldable pub event_name_do : List ℕ → ℤ → List ℕ → Answer (List ℕ)
event_name_do table i buffer = do
  _ ← must 8 (eqb (length table) table_length)
  _ ← must 8 (leb name_limit (length buffer))
  s ← read_table table
  given 15 (row_at (map (λ e. e.name) s.events) i)

-- the name at the start of the buffer, the later bytes kept
abbrev pub event_name_bytes : List ℕ → Answer (List ℕ) → List ℕ
event_name_bytes buffer (Refused n) = buffer
event_name_bytes buffer (Got name) = patch buffer 0 name
