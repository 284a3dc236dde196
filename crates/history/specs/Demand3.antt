-- Demand 3: "one claim about the whole list, not one for each call". Assumes nothing.
use Rattle.std.specs.Prelude.{ℕ, ◌≤◌, Bool, true, not, ◌&&◌, List, [], ◌∷◌, map, ◌≡◌, T, ℤ, length, Some}
use mathlib.Mathlib.Data.List.Defs.{Forall}
use Rattle.std.specs.Float.{binary64}
use Rattle.std.specs.Float.Ieee.{fits, is_nan}
use Rattle.le.specs.Field.{u32}
use Rattle.text.specs.Answer.{Got, ◌>>=◌, given}
use Rattle.double.specs.Double.{yield_ok}
use Rattle.sheet.specs.Sheet.{Sheet, name_limit}
use Rattle.table.specs.Compile.{compile_do, Compiled}
use Rattle.position.specs.Step.{Fed, plain}
use Rattle.position.specs.Feed.{Input, line_input, feed_state}
use Rattle.position.specs.Rows.{Pair, pairs_of, hold_rows}
use Rattle.position.specs.declared.HoldRow.{HoldRow}
use Rattle.book.specs.Layout.{capacity, encode}
use Rattle.book.specs.Calls.{fresh_do, feed_do, feed_line_do, save_do, restore_do}
use Rattle.row.specs.Calls.{row_buffer, row_at, pair_do, hold_do, event_name_do}
use Rattle.row_blocks.specs.Blocks.{hold_row_bytes, hold_row_length, pair_row_bytes, pair_row_limit, block_from, hold_block_do, pair_block_do, counts_do}
use Rattle.history.specs.Calls.{Call, Fresh, Feed, FeedLine, Save, Restore, Ask, book_after, Done, done_from}
use Rattle.history.specs.Survivors.{Known, survivors, AllOurs}

-- the doubles of a row are numbers
pub record PairNumbers (p : Pair) : Type 0 where
  pub open_price : T (not (is_nan p.open_price))
  pub close_price : T (not (is_nan p.close_price))
  pub days : T (not (is_nan p.days))
  pub yield : T (yield_ok p.yield)

pub record HoldNumbers (o : HoldRow) : Type 0 where
  pub price : T (not (is_nan o.price))
  pub n1b : T (yield_ok o.n1b)

-- What is claimed of a book b, made fresh of the lent bytes and asked with the table, where the bars fs survive.
pub record Kept (table : List ℕ) (s : Sheet) (lent : List ℕ) (fs : List Fed) (b : List ℕ) : Type 0 where
  -- its length and its C are those of the bytes that fresh was lent
  pub long : length b ≡ length lent
  pub bars : ℕ
  pub sized : capacity lent ≡ Some bars
  -- "The book holds the machine's state after these alone", byte for byte
  pub state : b ≡ encode bars (plain s fs)
  -- H is the number of survivors, R that of the machine's records, and not above H
  pub holds : u32 b 0 ≡ length fs
  pub records : u32 b 4 ≡ length (plain s fs).records
  pub few : length (plain s fs).records ≤ length fs
  -- the next feed answers as the machine does, in number, report and bytes, of four numbers and of a line; a save is accepted, and what it leaves can be restored
  pub feeds : (i : Input)
      → feed_do table b i ≡ (feed_state s bars i (plain s fs) >>= λ a. Got (record { after = encode bars a.after; report = a.report }))
  pub feed_lines : (line signals : List ℕ)
      → feed_line_do table b line signals
      ≡ (line_input line signals >>= λ i. feed_state s bars i (plain s fs) >>= λ a. Got (record { after = encode bars a.after; report = a.report }))
  pub saves : (image : List ℕ) → length image ≡ length b → save_do table b image ≡ Got b
  pub restores : (into : List ℕ) → length into ≡ length b → restore_do table into b ≡ Got b
  -- "all its rows are those that these bars give", and 15 exactly past the last
  pub pairs_read : (i : ℤ) (buffer : List ℕ) → row_buffer ≤ length buffer
      → pair_do table b i buffer ≡ given 15 (row_at (pairs_of s (plain s fs).records) i)
  pub holds_read : (i : ℤ) → hold_do table b i ≡ given 15 (row_at (hold_rows (plain s fs).holds) i)
  -- the same of blocks of rows: from any index on, in order, as many as fit; how many rows there are; and the events' names
  pub pair_blocks : (i : ℤ) (out : List ℕ) → pair_row_limit ≤ length out
      → pair_block_do table b i out ≡ block_from (map pair_row_bytes (pairs_of s (plain s fs).records)) i (length out)
  pub hold_blocks : (i : ℤ) (out : List ℕ) → hold_row_length ≤ length out
      → hold_block_do table b i out ≡ block_from (map hold_row_bytes (hold_rows (plain s fs).holds)) i (length out)
  pub counts : counts_do table b ≡ Got (record { holds = length fs; pairs = length (pairs_of s (plain s fs).records) })
  pub names : (i : ℤ) (buffer : List ℕ) → name_limit ≤ length buffer → event_name_do table i buffer ≡ given 15 (row_at (map (λ e. e.name) s.events) i)
  -- no double of a row is NaN, so that equal rows are rows of equal bits
  pub pair_numbers : Forall PairNumbers (pairs_of s (plain s fs).records)
  pub hold_numbers : Forall HoldNumbers (hold_rows (plain s fs).holds)

-- Of calls and their answers, which leave the book b: the survivors are known where the host kept its part, and wherever they are known the book is
-- theirs.
pub record Claimed (table : List ℕ) (s : Sheet) (lent : List ℕ) (ds : List Done) (b : List ℕ) : Type 0 where
  pub known : AllOurs table [] ds → (fs : List Fed) × (survivors table ds ≡ Known fs)
  pub kept : (fs : List Fed) → survivors table ds ≡ Known fs → Kept table s lent fs b

-- each price that is handed over is a double: the logic's `Float` has values that no double is, and every f64 argument `fits`. A line hands over
-- none.
abbrev pub is_double : Call → Bool
is_double Fresh = true
is_double (Feed t i) = fits binary64 i.price
is_double (FeedLine t line signals) = true
is_double (Save t image) = true
is_double (Restore t image k) = true
is_double (Ask r) = true

unfoldable pub doubles : List Call → Bool
doubles [] = true
doubles (c ∷ cs) = is_double c && doubles cs

-- Demand 3: a table that an accepted compile of a text wrote, a book that an accepted fresh made of any bytes, and then any list of calls.
unfoldable pub Demand3 : Type 0
Demand3 = (text before table : List ℕ) (s : Sheet) → compile_do text before ≡ Got s → Compiled (compile_do text before) before table
    → (lent b : List ℕ) → fresh_do lent ≡ Got b
    → (cs : List Call) → T (doubles cs) → Claimed table s lent (done_from b cs) (book_after b cs)
