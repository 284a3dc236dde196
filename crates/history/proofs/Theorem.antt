-- Demand 3 holds: by induction over the list, since each call keeps the invariant. Assumes nothing.
use Prim.Native.Nat.{ℕ}
use native.Mathlib.Omega.{arith}
use mathlib.Core.List.{List, [], ◌∷◌}
use mathlib.Core.Path.{◌≡◌, refl, subst, ◌∙◌}
use mathlib.Mathlib.Data.List.Defs.{Forall}
use lib.Dec.{T}
use lib.ListN.{length}
use store.Enc.{and_l, and_r}
use Rattle.text.specs.Answer.{Answer, Got}
use Rattle.text.proofs.Refusals.{Gives, refuses, gives}
use Rattle.text.proofs.Answers.{got_same}
use Rattle.position.specs.Step.{Fed}
use Rattle.sheet.specs.Sheet.{Sheet}
use Rattle.table.specs.Table.{read_table}
use Rattle.table.specs.Compile.{Means, Compiled}
use Rattle.book.specs.Calls.{fresh_do}
use Rattle.book.proofs.Sizes.{fresh-size}
use Rattle.history.specs.Calls.{Call, Fresh, Feed, FeedLine, Save, Restore, Ask, answered, after, book_after, done_from}
use Rattle.history.specs.Survivors.{Known, Ledger, survive, ledger_from, survivors}
use Rattle.history.specs.Demand3.{Claimed, is_double, doubles, Demand3}
use Rattle.history.proofs.Invariant.{Follows, Good}
use Rattle.history.proofs.Keeps.{fresh-book, fresh_keeps, feed_keeps, line_keeps, save_keeps, restore_keeps}
use Rattle.history.proofs.Kept.{kept}
use Rattle.history.proofs.Answered.{Cleared, fresh_gives}
use Rattle.history.proofs.Known.{known_is, stays_known}
use Rattle.history.proofs.Sizes.{same_length}

module _ (table : List ℕ) (s : Sheet) (meant : read_table table ≡ Got s) where
  keeps : (l : Ledger) (b : List ℕ) (c : Call) → T (is_double c) → Good s l b → Good s (survive table l c (answered b c)) (after b c)
  keeps l b Fresh double good = fresh_keeps table s meant l b good
  keeps l b (Feed t i) double good = feed_keeps table s meant l b good t i double
  keeps l b (FeedLine t line signals) double good = line_keeps table s meant l b good t line signals
  keeps l b (Save t image) double good = save_keeps table s l b good t image
  keeps l b (Restore t image k) double good = restore_keeps table s l b good t image k
  keeps l b (Ask r) double good = good

  all_keep : (cs : List Call) (l : Ledger) (b : List ℕ) → T (doubles cs) → Good s l b → Good s (ledger_from table l (done_from b cs)) (book_after b cs)
  unfolding doubles done_from ledger_from book_after
  all_keep [] l b double good = good
  all_keep (c ∷ cs) l b double good =
      all_keep cs (survive table l c (answered b c)) (after b c) (and_r (is_double c) (doubles cs) double)
      (keeps l b c (and_l (is_double c) (doubles cs) double) good)

  -- of any bytes that are a table
  pub of_table : (lent b : List ℕ) → fresh_do lent ≡ Got b → (cs : List Call) → T (doubles cs) → Claimed table s lent (done_from b cs) (book_after b cs)
  unfolding survivors Forall
  of_table lent b made cs double =
      let start : Ledger = record { past = Known []; saves = [] } in
      let good = all_keep cs start b double (record { book = fresh-book table s meant lent b (cleared_of (fresh_gives lent) made); saves = tt }) in
      record {
        known = λ ours. known_is (survivors table (done_from b cs)) (stays_known table b start [] cs (record { past = tt; saves = tt; left = refl }) ours);
        kept = λ fs e. kept table s meant lent fs (book_after b cs) (subst (λ p. Follows s p (book_after b cs)) e good.book) (same_length b cs ∙ fresh-size lent b made);
      }
    where
      cleared_of : {a : Answer (List ℕ)} → Gives (Cleared lent) a → a ≡ Got b → Cleared lent b
      cleared_of refuses e = absurd (let z : ◌≡◌ {A = ℕ} 0 1 = cc in omega arith)
      cleared_of (gives {x} c) e = subst (Cleared lent) (got_same x b e) c

pub demand_3 : Demand3
unfolding Demand3
demand_3 text before table s done wrote =
    let means : Means table s = subst (λ (a : Answer Sheet). Compiled a before table) done wrote in
    of_table table s means.meant
