-- A feed of a line behind 10. Assumes nothing.
use Rattle.std.specs.Prelude.{ℕ, List}
use Rattle.text.specs.Answer.{Answer, ◌>>=◌}
use Rattle.position.specs.Feed.{Accepted, line_input}
use Rattle.book_feed.specs.Steps.{numbers_do}

-- 16, 17, then 11, the signals' refusals, 13, 14
unfoldable pub line_do : List ℕ → ℕ → List ℕ → List ℕ → List ℕ → Answer (Accepted (List ℕ))
line_do t c line signals b = line_input line signals >>= λ i. numbers_do t c i b
