-- A feed in steps, as the code goes. Between them a feed of another kind puts its own checks. Assumes nothing.
use Rattle.book.specs.declared.OpenError.{OpenError}
use Rattle.book.specs.Opened.{opened_of}
use Rattle.std.specs.Prelude.{ℕ, true, List, ◌≡◌, ltb, Result, Ok, Err}
use Rattle.le.specs.Field.{u32}
use Rattle.text.specs.Answer.{Answer, Refused, Got, ◌>>=◌, must}
use Rattle.bar.specs.Bar.{bar_of}
use Rattle.bar.specs.declared.Bar.{Bar}
use Rattle.event.specs.Signals.{Line, read_signals}
use Rattle.position.specs.Feed.{Input, Accepted}
use Rattle.table.specs.Table.{is_table}
use Rattle.book.specs.Check.{header_ok}
use Rattle.book.specs.Calls.{sized}
use Rattle.book_header.specs.Size.{SizeOk}
use Rattle.book_write.specs.Write.{BookPassed}
use Rattle.book_feed_step.specs.Steps.{in_time, taken}

-- ---- before the bar

-- 8, 9: how many bars the book has room for
abbrev pub table_opened : List ℕ → List ℕ → Answer ℕ
table_opened t b = sized t b >>= λ c. must 9 (is_table t) >>= λ _. Got c

-- 8, 9, 10
abbrev pub book_opened : List ℕ → List ℕ → Answer ℕ
book_opened t b = table_opened t b >>= λ c. must 10 (header_ok c b) >>= λ _. Got c

-- what is known of the room c of a book that was opened
abbrev pub OpenedOk : (ℕ → Type 0) → Result ℕ OpenError → Type 0
OpenedOk P (Ok c) = P c
OpenedOk P (Err e) = Unit {0}

pub record TableOpenedAs (t b : List ℕ) (r : Result ℕ OpenError) : Type 0 where
  pub is : opened_of r ≡ table_opened t b
  pub ok : OpenedOk (λ c. (is_table t ≡ true) × SizeOk b c) r

pub record BookOpenedAs (t b : List ℕ) (r : Result ℕ OpenError) : Type 0 where
  pub is : opened_of r ≡ book_opened t b
  pub ok : OpenedOk (λ c. (is_table t ≡ true) × BookPassed b c) r

-- ---- the bar

-- 13, 14
unfoldable pub bar_do : List ℕ → ℕ → Bar → List Line → List ℕ → Answer (Accepted (List ℕ))
bar_do t c bar ls b = do
  _ ← must 13 (in_time bar b)
  _ ← must 14 (ltb (u32 b 0) c)
  Got (taken t c bar ls b)

-- the signals' refusals, then 13, 14
unfoldable pub signals_do : List ℕ → ℕ → Bar → List ℕ → List ℕ → Answer (Accepted (List ℕ))
signals_do t c bar signals b = read_signals signals >>= λ ls. bar_do t c bar ls b

-- 11, the signals' refusals, 13, 14
unfoldable pub numbers_do : List ℕ → ℕ → Input → List ℕ → Answer (Accepted (List ℕ))
numbers_do t c i b = bar_of i.id i.instant i.offset i.price >>= λ bar. signals_do t c bar i.signals b
