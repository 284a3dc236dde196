-- No call changes how long the book is. Assumes nothing.
use Prim.Native.Nat.{ℕ, ◌+◌, ◌-◌, ◌*◌, ◌/◌}
use mathlib.Core.Bool.{cond, ◌&&◌}
use mathlib.Core.List.{List, [], ◌∷◌}
use Rattle.std.specs.Prelude.{None, Some}
use mathlib.Core.Path.{◌≡◌, refl, ap, ◌∙◌}
use lib.Dec.{leb, eqb}
use lib.ListN.{length}
use Rattle.text.specs.Answer.{Answer, Refused, Got, got_or}
use Rattle.position.specs.Feed.{Accepted}
use Rattle.book.specs.Layout.{bar_limit, capacity}
use Rattle.book.specs.Calls.{fresh_do, feed_do, feed_line_do, feed_bytes, restore_do}
use Rattle.book.proofs.Sizes.{fresh-size, feed_size, restore_size}
use Rattle.history.proofs.Answered.{of_line}
use Rattle.history.specs.Calls.{Call, Fresh, Feed, FeedLine, Save, Restore, Ask, after, book_after}

-- a refused call leaves the book, and an accepted one a book as long
left : (b : List ℕ) (a : Answer (List ℕ)) → ((x : List ℕ) → a ≡ Got x → length x ≡ length b) → length (got_or b a) ≡ length b
left b (Refused n) h = refl
left b (Got x) h = h x refl

left-fed : (b : List ℕ) (a : Answer (Accepted (List ℕ))) → ((x : Accepted (List ℕ)) → a ≡ Got x → length x.after ≡ length b) → length (feed_bytes b a) ≡ length b
left-fed b (Refused n) h = refl
left-fed b (Got x) h = h x refl

after-size : (b : List ℕ) (c : Call) → length (after b c) ≡ length b
after-size b Fresh = left b (fresh_do b) (fresh-size b)
after-size b (Feed t i) = left-fed b (feed_do t b i) (feed_size t b i)
after-size b (FeedLine t line signals) =
    of_line (λ a x. length (feed_bytes b x) ≡ length b) t b line signals (λ n m. refl) (λ i double. left-fed b (feed_do t b i) (feed_size t b i))
after-size b (Save t image) = refl
after-size b (Restore t image k) = left b (restore_do t b image) (restore_size t b image)
after-size b (Ask r) = refl

-- no call changes how long the book is, whatever its bytes and the arguments
pub same_length : (b : List ℕ) (cs : List Call) → length (book_after b cs) ≡ length b
unfolding book_after
same_length b [] = refl
same_length b (c ∷ cs) = same_length (after b c) cs ∙ after-size b c

-- C is by the length alone
pub same-capacity : (a b : List ℕ) → length a ≡ length b → capacity a ≡ capacity b
unfolding capacity
same-capacity a b e = ap (λ (n : ℕ). let c = (n - 96) / 64 in cond (eqb n (96 + 64 * c) && leb 1 c && leb c bar_limit) (Some c) None) e
