-- A pair row by its parts, and the answer that a pair or a refusal gives. Assumes nothing.
use Rattle.row.specs.Read.{row_read_of}
use Rattle.row.specs.declared.RowError.{RowError}
use Rattle.std.specs.Prelude.{ℕ, ◌≡◌, List, Result}
use Rattle.std.proofs.Math.IntN.{sub_ℕ}
use Rattle.le.specs.Le.{patch}
use Rattle.text.specs.Answer.{Answer, Got, ◌>>=◌}
use Rattle.double.specs.Double.{days_of, pair_yield}
use Rattle.bar.specs.Time.{seconds_between}
use Rattle.bar.specs.Bar.{local_of}
use Rattle.position.specs.Rows.{Pair, side_of}
use Rattle.position.specs.declared.Record.{Record}
use Rattle.position.specs.declared.PairRow.{PairRow}
use Rattle.row.specs.Calls.{pair_text, pair_bytes, pair_row}

-- the row of two records, with the lengths of its texts
unfoldable pub row_of : Record → Record → ℕ → ℕ → ℕ → PairRow
row_of a z symbol mark sequence =
    record {
      side = side_of a;
      opened = local_of a.bar.time;
      closed = local_of z.bar.time;
      from = a.bar.price;
      to = z.bar.price;
      ids = sub_ℕ z.bar.id a.bar.id;
      days = days_of (seconds_between a.bar.time.instant.0 z.bar.time.instant.0);
      bp = pair_yield (side_of a) a.bar.price z.bar.price;
      symbol = symbol;
      mark = mark;
      sequence = sequence;
      lots = a.lots;
    }

-- the texts of p are at the start of the buffer, and r is its row
pub record PairPut (p : Pair) (before after : List ℕ) (r : PairRow) : Type 0 where
  pub is : r ≡ pair_row p
  pub bytes : after ≡ patch before 0 (pair_text p)

-- r is x, and the buffer that was `before` has its texts
pub record Answered (x : Answer Pair) (before after : List ℕ) (r : Result PairRow RowError) : Type 0 where
  pub is : row_read_of r ≡ (x >>= λ p. Got (pair_row p))
  pub bytes : after ≡ pair_bytes before x
