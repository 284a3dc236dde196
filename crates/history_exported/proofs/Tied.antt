-- What a contract promises is what `history` says of the call: its answer, and the book that it leaves. Assumes nothing.
use Prim.Native.Nat.{ℕ}
use mathlib.Core.List.{List, [], ◌∷◌, map}
use mathlib.Core.Path.{◌≡◌, refl, sym, ap, subst, ◌∙◌}
use Rattle.text.specs.Answer.{Answer, Refused, Got, ◌>>=◌, number}
use Rattle.position.specs.Feed.{Accepted}
use Rattle.position.specs.Rows.{Pair}
use Rattle.position.specs.declared.HoldRow.{HoldRow as Hold}
use Rattle.book.specs.Calls.{feed_do, feed_line_do}
use Rattle.row.specs.Calls.{pair_row, pair_do, hold_do, event_name_do}
use Rattle.row_blocks.specs.Blocks.{hold_block_do, pair_block_do, counts_do, block_of}
use Rattle.row_blocks.specs.declared.RowCounts.{RowCounts}
use Rattle.position_book_answer.specs.Rows.{feed_answer, pair_answer, hold_answer, block_answer, counts_answer}
use Rattle.position_book_answer_alone.specs.Calls.{name_answer}
use Rattle.position_book_answer.specs.declared.FeedAnswer.{FeedAnswer}
use Rattle.position_book_answer.specs.declared.PairAnswer.{PairAnswer}
use Rattle.position_book_answer.specs.declared.HoldAnswer.{HoldAnswer}
use Rattle.position_book_answer.specs.declared.BlockAnswer.{BlockAnswer}
use Rattle.position_book_answer.specs.declared.CountsAnswer.{CountsAnswer}
use Rattle.position_book_answer_alone.specs.declared.NameAnswer.{NameAnswer}
use Rattle.history.specs.Calls.{Request, PairRow, HoldRow, PairRows, HoldRows, Counts, EventName, Call, Fresh, Feed, FeedLine, Save, Restore, Ask, asked, Answered, numbered, answered, after, book_after, Done, done_from}
use Rattle.history_exported.specs.Run.{Answers, Did, Ran}

-- ---- the number of each answer

feed_says : (d : Answer (Accepted (List ℕ))) → (feed_answer d).number ≡ number d
feed_says (Refused n) = refl
feed_says (Got x) = refl

pair_says : (d : Answer Pair) → (pair_answer (d >>= λ p. Got (pair_row p))).number ≡ number d
pair_says (Refused n) = refl
pair_says (Got x) = refl

hold_says : (d : Answer Hold) → (hold_answer d).number ≡ number d
hold_says (Refused n) = refl
hold_says (Got x) = refl

block_says : (d : Answer (List (List ℕ))) → (block_answer (d >>= λ rows. Got (block_of rows))).number ≡ number d
block_says (Refused n) = refl
block_says (Got x) = refl

counts_say : (d : Answer RowCounts) → (counts_answer d).number ≡ number d
counts_say (Refused n) = refl
counts_say (Got x) = refl

name-says : (d : Answer (List ℕ)) → (name_answer d).number ≡ number d
name-says (Refused n) = refl
name-says (Got x) = refl

-- ---- one call

asked_is : (b : List ℕ) (q : Request) (n : ℕ) → Answers b q n → n ≡ asked b q
asked_is b (PairRow t i buffer) n d = d.3 ∙ ap (λ (r : PairAnswer). r.number) d.2.0 ∙ pair_says (pair_do t b i buffer)
asked_is b (HoldRow t i) n d = d.2 ∙ ap (λ (r : HoldAnswer). r.number) d.1 ∙ hold_says (hold_do t b i)
asked_is b (PairRows t i rows) n d = d.3 ∙ ap (λ (r : BlockAnswer). r.number) d.2.0 ∙ block_says (pair_block_do t b i rows)
asked_is b (HoldRows t i rows) n d = d.3 ∙ ap (λ (r : BlockAnswer). r.number) d.2.0 ∙ block_says (hold_block_do t b i rows)
asked_is b (Counts t) n d = d.2 ∙ ap (λ (r : CountsAnswer). r.number) d.1 ∙ counts_say (counts_do t b)
asked_is b (EventName t i buffer) n d = d.3 ∙ ap (λ (r : NameAnswer). r.number) d.2.0 ∙ name-says (event_name_do t i buffer)

pub tied : (b : List ℕ) (c : Call) (x : List ℕ) (a : Answered) → Did b c x a → (a ≡ answered b c) × (x ≡ after b c)
tied b Fresh x a d = (d.2 ∙ ap numbered d.1.0, d.1.1)
tied b (Feed t i) x a d = (d.2 ∙ ap numbered (ap (λ (r : FeedAnswer). r.number) d.1.0 ∙ feed_says (feed_do t b i)), d.1.1)
tied b (FeedLine t line signals) x a d = (d.2 ∙ ap numbered (ap (λ (r : FeedAnswer). r.number) d.1.0 ∙ feed_says (feed_line_do t b line signals)), d.1.1)
tied b (Save t image) x a d = (d.3 ∙ rw (d.2.0, d.2.1) refl, d.4)
tied b (Restore t image k) x a d = (d.2 ∙ ap numbered d.1.0, d.1.1)
tied b (Ask q) x a d = (d.2 ∙ ap numbered (asked_is b q d.0 d.1), d.3)

-- ---- a run is the list of its calls

abbrev pub calls_of : List Done → List Call
calls_of ds = map (λ d. d.call) ds

pub run_tied : (b : List ℕ) (ds : List Done) (e : List ℕ) → Ran b ds e → (done_from b (calls_of ds) ≡ ds) × (book_after b (calls_of ds) ≡ e)
unfolding done_from book_after
run_tied b [] e r = (refl, sym r)
run_tied b (d ∷ ds) e r =
    let one = tied b d.call r.0 d.answer r.1 in
    let rest = run_tied (after b d.call) ds e (subst (λ (x : List ℕ). Ran x ds e) one.1 r.2) in
    (ap (λ (a : Answered). record { call = d.call; answer = a } ∷ done_from (after b d.call) (calls_of ds)) (sym one.0) ∙ ap (λ (q : List Done). d ∷ q) rest.0, rest.1)
