-- What a feed and the requests for rows, blocks and counts answer to the host: their numbers and values. "Refused rows carry zeros and
-- absent yields." A refused feed, block or count has zeros too. Assumes nothing.
use Rattle.std.specs.Prelude.{ℕ, List, pos, Float, Option, None, Some}
use Rattle.double.specs.declared.Yield.{Yield}
use Rattle.double.specs.declared.Yield.TheVariants.{Absent, Bp}
use Rattle.position.specs.declared.Description.{Description}
use Rattle.text.specs.Answer.{Answer, Refused, Got}
use Rattle.double.specs.Double.{whole}
use Rattle.position.specs.State.{pos_sign}
use Rattle.position.specs.Feed.{Accepted}
use Rattle.position.specs.declared.HoldRow.{HoldRow}
use Rattle.position.specs.declared.PairRow.{PairRow}
use Rattle.book.specs.Layout.{flag, yield_flag, description_code, description_event}
use Rattle.row_blocks.specs.Blocks.{side_sign}
use Rattle.row_blocks.specs.declared.Block.{Block}
use Rattle.row_blocks.specs.declared.RowCounts.{RowCounts}
use Rattle.position_book_answer.specs.declared.FeedAnswer.{FeedAnswer}
use Rattle.position_book_answer.specs.declared.PairAnswer.{PairAnswer}
use Rattle.position_book_answer.specs.declared.HoldAnswer.{HoldAnswer}
use Rattle.position_book_answer.specs.declared.BlockAnswer.{BlockAnswer}
use Rattle.position_book_answer.specs.declared.CountsAnswer.{CountsAnswer}

-- ---- a feed

-- "1 event, 2 stop, 3 timeout", as a record's description; 0 where nothing decided the bar
abbrev pub decision_code : Option Description → ℕ
decision_code None = 0
decision_code (Some d) = description_code d

abbrev pub decision_event : Option Description → ℕ
decision_event None = 0
decision_event (Some d) = description_event d

abbrev pub feed_answer : Answer (Accepted (List ℕ)) → FeedAnswer
feed_answer (Refused n) = record { number = n; pos = pos 0; changed = 0; decision = 0; event = 0 }
feed_answer (Got a) =
    let r = a.report in
    record { number = 0; pos = pos_sign r.pos; changed = flag r.changed; decision = decision_code r.decision; event = decision_event r.decision }

-- ---- rows

-- "absent": not present, and 0
abbrev pub yield_value : Yield → Float
yield_value Absent = whole 0
yield_value (Bp x) = x

abbrev pub pair_answer : Answer PairRow → PairAnswer
pair_answer (Refused n) =
    record {
      number = n;
      side = pos 0;
      opened = pos 0;
      closed = pos 0;
      from = whole 0;
      to = whole 0;
      ids = pos 0;
      days = whole 0;
      present = 0;
      bp = whole 0;
      symbol = 0;
      mark = 0;
      sequence = 0;
      lots = 0;
    }
pair_answer (Got p) =
    record {
      number = 0;
      side = side_sign p.side;
      opened = p.opened.0;
      closed = p.closed.0;
      from = p.from;
      to = p.to;
      ids = p.ids;
      days = p.days;
      present = yield_flag p.bp;
      bp = yield_value p.bp;
      symbol = p.symbol;
      mark = p.mark;
      sequence = p.sequence;
      lots = p.lots;
    }

abbrev pub hold_answer : Answer HoldRow → HoldAnswer
hold_answer (Refused n) = record { number = n; local = pos 0; pos = pos 0; price = whole 0; present = 0; bp = whole 0 }
hold_answer (Got r) =
    record { number = 0; local = r.local.0; pos = r.pos; price = r.price; present = yield_flag r.n1b; bp = yield_value r.n1b }

-- ---- blocks and counts

abbrev pub block_answer : Answer Block → BlockAnswer
block_answer (Refused n) = record { number = n; rows = 0; length = 0 }
block_answer (Got q) = record { number = 0; rows = q.rows; length = q.length }

abbrev pub counts_answer : Answer RowCounts → CountsAnswer
counts_answer (Refused n) = record { number = n; holds = 0; pairs = 0 }
counts_answer (Got q) = record { number = 0; holds = q.holds; pairs = q.pairs }
