-- What a feed answers, and the book's bytes at exit. Assumes nothing.
use Rattle.book_feed.specs.declared.FeedError.{FeedError}
use Rattle.book_feed.specs.declared.FeedError.TheVariants as FeedError
use Rattle.book.specs.Opened.{open_refusal}
use Rattle.bar_line_read.specs.Read.{line_refusal}
use Rattle.event_signals.specs.Read.{signals_refusal}
use Rattle.position.specs.declared.Report.{Report}
use Rattle.std.specs.Prelude.{ℕ, ◌≡◌, List, Result, Ok, Err}
use Rattle.text.specs.Answer.{Answer, Refused, Got}
use Rattle.position.specs.Feed.{Accepted}
use Rattle.book.specs.Calls.{feed_bytes}

-- the number of each refusal
abbrev pub feed_refusal : FeedError → ℕ
feed_refusal (FeedError.Open e) = open_refusal e
feed_refusal (FeedError.Line e) = line_refusal e
feed_refusal FeedError.BadBar = 11
feed_refusal (FeedError.Signals e) = signals_refusal e
feed_refusal FeedError.Late = 13
feed_refusal FeedError.Full = 14

-- where it is done, what it says, with the bytes at exit
abbrev pub feed_of : List ℕ → Result Report FeedError → Answer (Accepted (List ℕ))
feed_of after (Ok r) = Got (record { after = after; report = r })
feed_of after (Err e) = Refused (feed_refusal e)

-- r and the bytes at exit, which were `before`, are as the answer a has them
pub record FeedAs (a : Answer (Accepted (List ℕ))) (before after : List ℕ) (r : Result Report FeedError) : Type 0 where
  pub is : feed_of after r ≡ a
  pub bytes : after ≡ feed_bytes before a
