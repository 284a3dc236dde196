-- The whole result of a call, from what the function that it leans on promises and the number or the struct made of its answer. Assumes nothing.
use Rattle.position.specs.declared.PairRow.{PairRow}
use Rattle.row_blocks.specs.declared.Block.{Block}
use Rattle.position.specs.declared.Report.{Report}
use Rattle.row.specs.Read.{row_read_of}
use Rattle.row.specs.declared.RowError.{RowError}
use Rattle.book.specs.declared.OpenError.{OpenError}
use Rattle.book_feed.specs.declared.FeedError.{FeedError}
use Rattle.std.specs.Prelude.{Result}
use Prim.Native.Nat.{ℕ}
use mathlib.Core.Path.{◌≡◌, ◌∙◌, ap, subst}
use mathlib.Core.List.{List}
use lib.IntN.{ℤ}
use mir.Syntax.{w64}
use mir.Val.{SFits}
use mir.Facts.{to_z-of_z}
use Rattle.le.proofs.Signs.{back}
use Rattle.text.specs.Answer.{Answer, number}
use Rattle.position.specs.Feed.{Input, Accepted}
use Rattle.book.specs.Calls.{feed_do}
use Rattle.row.specs.Calls.{pair_do, event_name_do}
use Rattle.book_store.specs.Stored.{stored_of, StoredAs}
use Rattle.book_feed.specs.Feed.{feed_of, FeedAs}
use Rattle.row_pairs.specs.Read.{PairAs}
use Rattle.row_blocks.specs.Read.{BlockAs}
use Rattle.row_names.specs.Read.{NameAs}
use Rattle.position_book_answer_alone.specs.Calls.{length_answer}
use Rattle.position_book_answer_alone.specs.declared.NameAnswer.{NameAnswer}
use Rattle.position_book_answer.specs.Rows.{feed_answer, pair_answer, block_answer}
use Rattle.position_book_answer.specs.declared.FeedAnswer.{FeedAnswer}
use Rattle.position_book_answer.specs.declared.PairAnswer.{PairAnswer}
use Rattle.position_book_answer.specs.declared.BlockAnswer.{BlockAnswer}
use Rattle.position_book.specs.Results.{StoreIs, FeedIs, PairIs, BlockIs, EventNameIs}

-- what fresh, save or restore answers, and the bytes that it leaves
pub store_is : {d : Answer (List ℕ)} {before after : List ℕ} {q : Result (Unit {0}) OpenError} {r : ℕ} → StoredAs d before after q → ((z : List ℕ) → r ≡ number (stored_of z q)) → StoreIs d before after r
store_is {after = after} s e = (e after ∙ ap number s.is, s.bytes)

-- ---- numbers of 64 bits that are handed on are read back

-- what a feed says, and the bytes that it leaves
pub fed-is : {d : Answer (Accepted (List ℕ))} {before after : List ℕ} {q : (Result Report FeedError)} {r : FeedAnswer} → FeedAs d before after q → ((z : List ℕ) → r ≡ feed_answer (feed_of z q))
    → FeedIs d before after r
fed-is {after = after} f e = (e after ∙ ap feed_answer f.is, f.bytes)

pub feed_is : (t : List ℕ) (i : Input) {before after : List ℕ} {q : (Result Report FeedError)} {r : FeedAnswer} → SFits w64 i.id → SFits w64 i.instant → SFits w64 i.offset
    → FeedAs (feed_do t before (record { id = back w64 i.id; instant = back w64 i.instant; offset = back w64 i.offset; price = i.price; signals = i.signals })) before after q
    → ((z : List ℕ) → r ≡ feed_answer (feed_of z q)) → FeedIs (feed_do t before i) before after r
feed_is t i F G H f e = fed-is (rw (to_z-of_z {w = w64} F, to_z-of_z {w = w64} G, to_z-of_z {w = w64} H) at f) e

module _ {i : ℤ} (F : SFits w64 i) where
  pub pair_is : {t b before after : List ℕ} {q : (Result PairRow RowError)} {r : PairAnswer} → PairAs t b (back w64 i) before after q → r ≡ pair_answer (row_read_of q)
      → PairIs (pair_do t b i before) before after r
  pair_is {t} {b} {before} {after} {q} p e =
      let g = subst (λ (z : ℤ). PairAs t b z before after q) (to_z-of_z {w = w64} F) p in
      (e ∙ ap pair_answer g.is, g.bytes)

  pub name-is : {t before after : List ℕ} {q : (Result ℕ RowError)} {r : NameAnswer} → NameAs t (back w64 i) before after q → r ≡ length_answer (row_read_of q)
      → EventNameIs (event_name_do t i before) before after r
  name-is {t} {before} {after} {q} p e =
      let g = subst (λ (z : ℤ). NameAs t z before after q) (to_z-of_z {w = w64} F) p in
      (e ∙ ap length_answer g.is, g.bytes)

  pub block_is : (d : ℤ → Answer (List (List ℕ))) {before after : List ℕ} {q : (Result Block RowError)} {r : BlockAnswer} → BlockAs (d (back w64 i)) before after q → r ≡ block_answer (row_read_of q)
      → BlockIs (d i) before after r
  block_is d {before} {after} {q} p e =
      let g = subst (λ (z : ℤ). BlockAs (d z) before after q) (to_z-of_z {w = w64} F) p in
      (e ∙ ap block_answer g.is, g.bytes)
