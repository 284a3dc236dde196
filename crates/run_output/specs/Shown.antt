-- A pair row and its texts as the pair that they show, and which rows can be printed: their doubles are numbers. Assumes nothing.
use Rattle.std.specs.Prelude.{ℕ, ◌+◌, ◌≤◌, not, List, T, length}
use Rattle.std.specs.Float.Ieee.{is_nan}
use Rattle.le.specs.Le.{part}
use Rattle.position.specs.Rows.{Pair}
use Rattle.position.specs.declared.HoldRow.{HoldRow}
use Rattle.position.specs.declared.PairRow.{PairRow}
use Rattle.row.specs.Calls.{row_buffer}
use Rattle.run_fields.specs.Fields.{YieldShown}

-- room for every line: of a feed or a refusal, of a pair row, of a hold row
abbrev pub feed_room : ℕ
feed_room = 64

abbrev pub pair_room : ℕ
pair_room = 2304

abbrev pub hold_room : ℕ
hold_room = 128

-- symbol, mark and sequence stand one after another at the start of the row buffer
abbrev pub pair_in : PairRow → List ℕ → Pair
pair_in r buffer =
    record {
      symbol = part buffer 0 r.symbol;
      mark = part buffer r.symbol r.mark;
      side = r.side;
      open_local = r.opened;
      close_local = r.closed;
      open_price = r.from;
      close_price = r.to;
      ids = r.ids;
      sequence = part buffer (r.symbol + r.mark) r.sequence;
      days = r.days;
      yield = r.bp;
      lots = r.lots;
    }

pub record HoldShown (o : HoldRow) : Type 0 where
  pub price : T (not (is_nan o.price))
  pub n1b : YieldShown o.n1b

pub record PairShown (r : PairRow) (buffer : List ℕ) : Type 0 where
  pub from : T (not (is_nan r.from))
  pub to : T (not (is_nan r.to))
  pub days : T (not (is_nan r.days))
  pub bp : YieldShown r.bp
  pub texts : r.symbol + r.mark + r.sequence ≤ length buffer
  pub short : length buffer ≤ row_buffer
