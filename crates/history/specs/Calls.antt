-- The calls on one book, each with any arguments: what it answers, and the book that it leaves. Assumes nothing.
use Rattle.std.specs.Prelude.{ℕ, List, [], ◌∷◌, ℤ}
use Rattle.text.specs.Answer.{number, got_or}
use Rattle.position.specs.Feed.{Input}
use Rattle.book.specs.Calls.{fresh_do, feed_do, feed_line_do, feed_bytes, save_do, restore_do}
use Rattle.row.specs.Calls.{pair_do, hold_do, event_name_do}
use Rattle.row_blocks.specs.Blocks.{hold_block_do, pair_block_do, counts_do}

-- ---- one call

-- What only reads: a table's bytes first, then the index, then the lent buffer at entry.
pub data Request : Type 0 where
  PairRow : List ℕ → ℤ → List ℕ → Request
  HoldRow : List ℕ → ℤ → Request
  PairRows : List ℕ → ℤ → List ℕ → Request
  HoldRows : List ℕ → ℤ → List ℕ → Request
  Counts : List ℕ → Request
  EventName : List ℕ → ℤ → List ℕ → Request

-- Each with its arguments, whatever they are: a table's bytes first; a feed of a line has the line and the signals' text; a save has the image buffer at entry, a restore its image. The number of a
-- restore is no argument of the call: it names the save that its image is taken to be of, among the accepted saves before, the last being 0.
pub data Call : Type 0 where
  Fresh : Call
  Feed : List ℕ → Input → Call
  FeedLine : List ℕ → List ℕ → List ℕ → Call
  Save : List ℕ → List ℕ → Call
  Restore : List ℕ → List ℕ → ℕ → Call
  Ask : Request → Call

-- the number that a request is answered with
abbrev pub asked : List ℕ → Request → ℕ
asked b (PairRow t i buffer) = number (pair_do t b i buffer)
asked b (HoldRow t i) = number (hold_do t b i)
asked b (PairRows t i out) = number (pair_block_do t b i out)
asked b (HoldRows t i out) = number (hold_block_do t b i out)
asked b (Counts t) = number (counts_do t b)
asked b (EventName t i buffer) = number (event_name_do t i buffer)

-- what a call answers: its number and, of a save, the image at exit
pub record Answered : Type 0 where
  pub number : ℕ
  pub image : List ℕ

abbrev pub numbered : ℕ → Answered
numbered n = record { number = n; image = [] }

abbrev pub answered : List ℕ → Call → Answered
answered b Fresh = numbered (number (fresh_do b))
answered b (Feed t i) = numbered (number (feed_do t b i))
answered b (FeedLine t line signals) = numbered (number (feed_line_do t b line signals))
answered b (Save t image) = record { number = number (save_do t b image); image = got_or image (save_do t b image) }
answered b (Restore t image k) = numbered (number (restore_do t b image))
answered b (Ask r) = numbered (asked b r)

-- the book that a call leaves
abbrev pub after : List ℕ → Call → List ℕ
after b Fresh = got_or b (fresh_do b)
after b (Feed t i) = feed_bytes b (feed_do t b i)
after b (FeedLine t line signals) = feed_bytes b (feed_line_do t b line signals)
after b (Save t image) = b
after b (Restore t image k) = got_or b (restore_do t b image)
after b (Ask r) = b

-- ---- a list of calls: the book goes from each to the next

unfoldable pub book_after : List ℕ → List Call → List ℕ
book_after b [] = b
book_after b (c ∷ cs) = book_after (after b c) cs

-- a call with what it answered
pub record Done : Type 0 where
  pub call : Call
  pub answer : Answered

unfoldable pub done_from : List ℕ → List Call → List Done
done_from b [] = []
done_from b (c ∷ cs) = record { call = c; answer = answered b c } ∷ done_from (after b c) cs
