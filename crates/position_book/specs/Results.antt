-- The whole result of an exported call by what its definition answers: r is its number and values, and the lent bytes that were `before` are
-- `after` at exit. Assumes nothing.
use Rattle.std.specs.Prelude.{ℕ, ◌≡◌, List}
use Rattle.text.specs.Answer.{Answer, Got, ◌>>=◌, number, got_or}
use Rattle.sheet.specs.Sheet.{Sheet}
use Rattle.table.specs.Compile.{Compiled}
use Rattle.position.specs.Feed.{Accepted}
use Rattle.position.specs.Rows.{Pair}
use Rattle.book.specs.Calls.{feed_bytes}
use Rattle.row.specs.Calls.{pair_bytes, pair_row, event_name_bytes}
use Rattle.row_blocks.specs.Blocks.{block_of, block_bytes}
use Rattle.position_book_answer_alone.specs.Calls.{name_answer}
use Rattle.position_book_answer_alone.specs.declared.NameAnswer.{NameAnswer}
use Rattle.position_book_answer.specs.Rows.{feed_answer, pair_answer, block_answer}
use Rattle.position_book_answer.specs.declared.FeedAnswer.{FeedAnswer}
use Rattle.position_book_answer.specs.declared.PairAnswer.{PairAnswer}
use Rattle.position_book_answer.specs.declared.BlockAnswer.{BlockAnswer}

-- the table means the sheet, or is as it was
abbrev pub CompileIs : Answer Sheet → List ℕ → List ℕ → ℕ → Type 0
CompileIs d before after r = (r ≡ number d) × Compiled d before after

-- fresh, save and restore
abbrev pub StoreIs : Answer (List ℕ) → List ℕ → List ℕ → ℕ → Type 0
StoreIs d before after r = (r ≡ number d) × (after ≡ got_or before d)

abbrev pub FeedIs : Answer (Accepted (List ℕ)) → List ℕ → List ℕ → FeedAnswer → Type 0
FeedIs d before after r = (r ≡ feed_answer d) × (after ≡ feed_bytes before d)

abbrev pub PairIs : Answer Pair → List ℕ → List ℕ → PairAnswer → Type 0
PairIs d before after r = (r ≡ pair_answer (d >>= λ p. Got (pair_row p))) × (after ≡ pair_bytes before d)

-- pair rows and hold rows in a block
abbrev pub BlockIs : Answer (List (List ℕ)) → List ℕ → List ℕ → BlockAnswer → Type 0
BlockIs d before after r = (r ≡ block_answer (d >>= λ rows. Got (block_of rows))) × (after ≡ block_bytes before d)

abbrev pub EventNameIs : Answer (List ℕ) → List ℕ → List ℕ → NameAnswer → Type 0
EventNameIs d before after r = (r ≡ name_answer d) × (after ≡ event_name_bytes before d)
