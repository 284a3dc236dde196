-- A line's feed: refused with the line, or the feed of its numbers. Assumes nothing.
use Rattle.position.specs.declared.Report.{Report}
use Rattle.book_feed.specs.declared.FeedError.{FeedError}
use Rattle.std.specs.Prelude.{Result}
use Prim.Native.Nat.{ℕ}
use mathlib.Core.List.{List}
use mathlib.Core.Path.{◌≡◌, ap, ◌∙◌, subst}
use mir.Syntax.{w64}
use mir.Val.{SFits}
use Rattle.text.specs.Answer.{Answer, Refused, Got, ◌>>=◌}
use Rattle.text.proofs.Answers.{refused_then, got_then}
use Rattle.le.proofs.Signs.{back}
use Rattle.bar.specs.declared.BarNumbers.{BarNumbers}
use Rattle.bar_line.specs.Line.{line_of}
use Rattle.position.specs.Feed.{input_of, line_input}
use Rattle.book_feed.specs.Feed.{feed_of, FeedAs}
use Rattle.book_feed.specs.Steps.{numbers_do}
use Rattle.book_feed.proofs.Refusals.{refused, feed_as, told_numbers}
use Rattle.book_feed_line.specs.Steps.{line_do}

module _ (t b : List ℕ) (c : ℕ) (line signals : List ℕ) where
  pub line_refused : {n : ℕ} {r : Result Report FeedError} → feed_of b r ≡ Refused n → Refused n ≡ line_of line → FeedAs (line_do t c line signals b) b b r
  unfolding line_do line_input
  line_refused e f = refused e (refused_then (λ i. numbers_do t c i b) (refused_then (λ n. Got (input_of n signals)) f))

  pub line_read : (n : BarNumbers) {m : List ℕ} {r : Result Report FeedError} → Got n ≡ line_of line → SFits w64 n.id → SFits w64 n.instant → SFits w64 n.offset
      → FeedAs (numbers_do t c (record { id = back w64 n.id; instant = back w64 n.instant; offset = back w64 n.offset; price = n.price; signals = signals }) b) b m r
      → FeedAs (line_do t c line signals b) b m r
  unfolding line_do line_input
  line_read n e f g h w =
      feed_as (got_then (λ i. numbers_do t c i b) (got_then (λ n. Got (input_of n signals)) e)) (told_numbers t b c (input_of n signals) f g h w)
