-- A run of the exported calls on one book, by what the contract of each promises, and demand 3 of it. Assumes nothing.
use Rattle.std.specs.Prelude.{ℕ, List, [], ◌∷◌, map, ◌≡◌, T}
use Rattle.text.specs.Answer.{Got}
use Rattle.sheet.specs.Sheet.{Sheet}
use Rattle.table.specs.Compile.{compile_do}
use Rattle.book.specs.Calls.{fresh_do, feed_do, feed_line_do, save_do, restore_do}
use Rattle.row.specs.Calls.{pair_do, hold_do, event_name_do}
use Rattle.row_blocks.specs.Blocks.{hold_block_do, pair_block_do, counts_do}
use Rattle.history.specs.Calls.{Request, PairRow, HoldRow, PairRows, HoldRows, Counts, EventName, Call, Fresh, Feed, FeedLine, Save, Restore, Ask, Answered, numbered, Done}
use Rattle.history.specs.Demand3.{Claimed, doubles}
use Rattle.position_book_answer.specs.Rows.{hold_answer, counts_answer}
use Rattle.position_book_answer.specs.declared.FeedAnswer.{FeedAnswer}
use Rattle.position_book_answer.specs.declared.PairAnswer.{PairAnswer}
use Rattle.position_book_answer.specs.declared.HoldAnswer.{HoldAnswer}
use Rattle.position_book_answer.specs.declared.BlockAnswer.{BlockAnswer}
use Rattle.position_book_answer.specs.declared.CountsAnswer.{CountsAnswer}
use Rattle.position_book_answer_alone.specs.declared.NameAnswer.{NameAnswer}
use Rattle.position_book.specs.Results.{CompileIs, StoreIs, FeedIs, PairIs, BlockIs, EventNameIs}

-- What the contract of a request says on the book b, where the number n was answered. `out` is the lent buffer at exit.
abbrev pub Answers : List ℕ → Request → ℕ → Type 0
Answers b (PairRow t i buffer) n = (r : PairAnswer) × (out : List ℕ) × PairIs (pair_do t b i buffer) buffer out r × (n ≡ r.number)
Answers b (HoldRow t i) n = (r : HoldAnswer) × (r ≡ hold_answer (hold_do t b i)) × (n ≡ r.number)
Answers b (PairRows t i rows) n = (r : BlockAnswer) × (out : List ℕ) × BlockIs (pair_block_do t b i rows) rows out r × (n ≡ r.number)
Answers b (HoldRows t i rows) n = (r : BlockAnswer) × (out : List ℕ) × BlockIs (hold_block_do t b i rows) rows out r × (n ≡ r.number)
Answers b (Counts t) n = (r : CountsAnswer) × (r ≡ counts_answer (counts_do t b)) × (n ≡ r.number)
Answers b (EventName t i buffer) n = (r : NameAnswer) × (out : List ℕ) × EventNameIs (event_name_do t i buffer) buffer out r × (n ≡ r.number)

-- What the contract of the exported call says, where the book was b at entry and is x at exit, and a was answered. A call that is lent the book
-- to read alone leaves it, as every `&[u8]`.
abbrev pub Did : List ℕ → Call → List ℕ → Answered → Type 0
Did b Fresh x a = (r : ℕ) × StoreIs (fresh_do b) b x r × (a ≡ numbered r)
Did b (Feed t i) x a = (r : FeedAnswer) × FeedIs (feed_do t b i) b x r × (a ≡ numbered r.number)
Did b (FeedLine t line signals) x a = (r : FeedAnswer) × FeedIs (feed_line_do t b line signals) b x r × (a ≡ numbered r.number)
Did b (Save t image) x a = (r : ℕ) × (out : List ℕ) × StoreIs (save_do t b image) image out r × (a ≡ record { number = r; image = out }) × (x ≡ b)
Did b (Restore t image k) x a = (r : ℕ) × StoreIs (restore_do t b image) b x r × (a ≡ numbered r)
Did b (Ask q) x a = (n : ℕ) × Answers b q n × (a ≡ numbered n) × (x ≡ b)

-- the calls one after another, each on the book that the one before it left: from the book b to the book e
abbrev pub Ran : List ℕ → List Done → List ℕ → Type 0
Ran b [] e = e ≡ b
Ran b (d ∷ ds) e = (x : List ℕ) × Did b d.call x d.answer × Ran x ds e

-- Demand 3 of the exported calls: a compile and a fresh that answer 0, and then any run.
unfoldable pub Exported : Type 0
Exported = (text before table : List ℕ) (r : ℕ) → CompileIs (compile_do text before) before table r → r ≡ 0
    → (lent b : List ℕ) (q : ℕ) → StoreIs (fresh_do lent) lent b q → q ≡ 0
    → (ds : List Done) (e : List ℕ) → Ran b ds e → T (doubles (map (λ d. d.call) ds))
    → (s : Sheet) × (compile_do text before ≡ Got s) × Claimed table s lent ds e
