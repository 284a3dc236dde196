-- Each call keeps the invariant, refused or done. Assumes nothing.
use Prim.Native.Nat.{ℕ}
use native.Mathlib.Omega.{arith}
use mathlib.Core.Bool.{Bool, true, false, cond}
use mathlib.Core.List.{List, [], ◌∷◌}
use mathlib.Core.Path.{◌≡◌, refl, sym, ap, ◌∙◌}
use mathlib.Mathlib.Data.List.Basic.{Forall-cons}
use lib.Dec.{T}
use lib.Ieee.{binary64, fits}
use lib.ListN.{length}
use Rattle.text.specs.Answer.{Answer, Refused, Got, ◌>>=◌, number, got_or}
use Rattle.text.specs.Text.{same}
use Rattle.text.proofs.Same.{same_eq}
use Rattle.text.proofs.Refusals.{Gives, refuses, gives, Any}
use Rattle.sheet.specs.Sheet.{Sheet}
use Rattle.table.specs.Table.{read_table}
use Rattle.table.proofs.Facts.{table_length_lem}
use Rattle.position.specs.State.{State}
use Rattle.position.specs.Step.{Fed, step, plain_from, plain}
use Rattle.position.specs.Feed.{Input, fed_of, admitted, Accepted, report_of, feed_state}
use Rattle.position_laws.proofs.Steps.{plain_more}
use Rattle.position_laws.proofs.Reach.{admitted_got}
use Rattle.book.specs.Layout.{encode}
use Rattle.book.specs.Calls.{feed_do, feed_bytes}
use Rattle.book.proofs.Feeds.{Ready, feed_is}
use Rattle.book.proofs.Ready.{ready}
use Rattle.history.specs.Calls.{Fresh, Feed, FeedLine, Save, Restore, answered, after}
use Rattle.history.specs.Survivors.{Past, Unknown, Known, Saved, Ledger, add, saved_as, if_done, survive}
use Rattle.history.proofs.Invariant.{BookOf, Follows, SavedRight, Good, saved_follows}
use Rattle.history.proofs.Booked.{cleared, stepped}
use Rattle.history.proofs.Answered.{Cleared, fresh_gives, feed_gives, of_line, save_gives, restore_gives}

-- ---- save and restore

module _ (table : List ℕ) (s : Sheet) (l : Ledger) (b : List ℕ) (good : Good s l b) (t image : List ℕ) where
  pub save_keeps : Good s (survive table l (Save t image) (answered b (Save t image))) b
  save_keeps = go (save_gives t b image)
    where
      go : {a : Answer (List ℕ)} → Gives (λ x. x ≡ b) a
          → Good s (if_done (number a) (record { past = l.past; saves = record { image = got_or image a; past = l.past } ∷ l.saves }) l) b
      go refuses = good
      go (gives {x} e) =
          let noted : Saved = record { image = x; past = l.past } in
          record { book = good.book; saves = (Forall-cons (SavedRight s) noted l.saves).1 (rw e good.book, good.saves) }

  pub restore_keeps : (k : ℕ) → Good s (survive table l (Restore t image k) (answered b (Restore t image k))) (after b (Restore t image k))
  restore_keeps k = go (restore_gives t b image)
    where
      go : {a : Answer (List ℕ)} → Gives (λ x. x ≡ image) a
          → Good s (if_done (number a) (record { past = saved_as k image l.saves; saves = l.saves }) l) (got_or b a)
      go refuses = good
      go (gives e) = record { book = rw e (saved_follows s k image l.saves good.saves); saves = good.saves }

-- ---- fresh and feed

module _ (table : List ℕ) (s : Sheet) (meant : read_table table ≡ Got s) where
  pub fresh-book : (b x : List ℕ) → Cleared b x → BookOf s (plain s []) x
  unfolding plain plain_from
  fresh-book b x e = cleared table s meant b x e

  -- an accepted feed of a book whose past is known
  more : (fs : List Fed) (b : List ℕ) (i : Input) (x : Accepted (List ℕ)) → BookOf s (plain s fs) b → T (fits binary64 i.price) → feed_do table b i ≡ Got x
      → Follows s (add (Known fs) (fed_of i)) x.after
  unfolding feed_state
  more fs b i x k double e = go (admitted c (length st.holds) st.head.end i) refl (sym (feed_is table s c st i fit) ∙ rw k.state at e)
    where
      c : ℕ
      c = k.bars

      st : State
      st = plain s fs

      fit : Ready table s c st
      fit = ready table s c st (table_length_lem table s meant) meant k.sound k.room

      next : Fed → Accepted State
      next f = record { after = step s f.bar f.signals st; report = report_of s f st }

      go : (a : Answer Fed) → admitted c (length st.holds) st.head.end i ≡ a
          → (a >>= (λ f. Got (next f)) >>= λ y. Got (record { after = encode c y.after; report = y.report })) ≡ Got x
          → Follows s (add (Known fs) (fed_of i)) x.after
      go (Refused n) h e = absurd (let z : ◌≡◌ {A = ℕ} 0 1 = cc in omega arith)
      go (Got f) h e =
          rw ((admitted_got c (length st.holds) st.head.end i f h).0, plain_more s fs f, ← ap (feed_bytes b) e) (stepped table s meant st b k i f double h)

  module _ (l : Ledger) (b : List ℕ) (good : Good s l b) where
    pub fresh_keeps : Good s (survive table l Fresh (answered b Fresh)) (after b Fresh)
    fresh_keeps = go (fresh_gives b)
      where
        go : {a : Answer (List ℕ)} → Gives (Cleared b) a → Good s (if_done (number a) (record { past = Known []; saves = l.saves }) l) (got_or b a)
        go refuses = good
        go (gives {x} e) = record { book = fresh-book b x e; saves = good.saves }

    pub feed_keeps : (t : List ℕ) (i : Input) → T (fits binary64 i.price) → Good s (survive table l (Feed t i) (answered b (Feed t i))) (after b (Feed t i))
    feed_keeps t i double = go refl (feed_gives t b i)
      where
        followed : (p : Past) (u : Bool) (x : Accepted (List ℕ)) → same t table ≡ u → Follows s p b → feed_do t b i ≡ Got x
            → Follows s (cond u (add p (fed_of i)) Unknown) x.after
        followed p false x h k e = tt
        followed Unknown true x h k e = tt
        followed (Known fs) true x h k e = more fs b i x k double (rw (same_eq t table h) at e)

        go : {a : Answer (Accepted (List ℕ))} → feed_do t b i ≡ a → Gives Any a
            → Good s (if_done (number a) (record { past = cond (same t table) (add l.past (fed_of i)) Unknown; saves = l.saves }) l) (feed_bytes b a)
        go e refuses = good
        go e (gives {x} u) = record { book = followed l.past (same t table) x refl good.book e; saves = good.saves }

    pub line_keeps : (t line signals : List ℕ)
        → Good s (survive table l (FeedLine t line signals) (answered b (FeedLine t line signals))) (after b (FeedLine t line signals))
    line_keeps t line signals =
        of_line (λ a x. Good s (if_done (number x) (record { past = cond (same t table) (add l.past (a >>= fed_of)) Unknown; saves = l.saves }) l) (feed_bytes b x))
        t b line signals (λ n m. good) (λ i double. feed_keeps t i double)
