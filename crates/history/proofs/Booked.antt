-- The book of a state that bars can reach: made fresh, and after a feed. Assumes nothing.
use Prim.Native.Nat.{ℕ}
use native.Mathlib.Omega.{arith}
use mathlib.Core.List.{List}
use mathlib.Core.Path.{◌≡◌, refl, sym, ap, subst, ◌∙◌}
use lib.Dec.{T}
use lib.Ieee.{binary64, fits}
use lib.ListN.{length}
use Rattle.text.specs.Answer.{Answer, Refused, Got, ◌>>=◌, number}
use Rattle.sheet.specs.Sheet.{Sheet}
use Rattle.table.specs.Table.{read_table}
use Rattle.table.proofs.Facts.{table_length_lem, table_events, table_lots}
use Rattle.position.specs.State.{State, fresh_state}
use Rattle.position.specs.Step.{Fed, step}
use Rattle.position.specs.Feed.{Input, admitted, Accepted, report_of, feed_state}
use Rattle.position.specs.Run.{next_state}
use Rattle.position_laws.proofs.Steps.{holds_grow}
use Rattle.position_laws.proofs.Reach.{fed-ok, admitted_got, sound_fresh, sound_step}
use Rattle.book.specs.Layout.{encode, fresh_book}
use Rattle.book.specs.Calls.{feed_do, feed_bytes}
use Rattle.book.proofs.Lengths.{capacity_range}
use Rattle.book.proofs.Feeds.{feed_is}
use Rattle.book.proofs.Ready.{ready}
use Rattle.history.proofs.Answered.{Cleared}
use Rattle.history.proofs.Invariant.{BookOf}

-- a feed of the book b, which was that of st with room for c bars, answers x; the plain machine answers a
pub record Next (s : Sheet) (st : State) (b : List ℕ) (c : ℕ) (x : Answer (Accepted (List ℕ))) (a : Answer (Accepted State)) : Type 0 where
  pub said : number x ≡ number a
  pub book : BookOf s (next_state st a) (feed_bytes b x)
  pub bars : book.bars ≡ c

module _ (table : List ℕ) (s : Sheet) (meant : read_table table ≡ Got s) where
  pub cleared : (b x : List ℕ) → Cleared b x → BookOf s fresh_state x
  unfolding fresh_state fresh_book
  cleared b x e =
      let range = capacity_range b e.0 e.1 in
      record {
        bars = e.0;
        state = e.2;
        sound = sound_fresh s;
        room = record { events = table_events table s meant; least = range.1; most = range.2; holds = omega arith };
      }

  pub cleared_bars : (b x : List ℕ) (e : Cleared b x) → (cleared b x e).bars ≡ e.0
  unfolding cleared
  cleared_bars b x e = refl

  -- a bar that the plain machine admits
  pub stepped : (st : State) (b : List ℕ) (k : BookOf s st b) (i : Input) (f : Fed) → T (fits binary64 i.price)
      → admitted k.bars (length st.holds) st.head.end i ≡ Got f → BookOf s (step s f.bar f.signals st) (encode k.bars (step s f.bar f.signals st))
  stepped st b k i f double e =
      let c = k.bars in
      let a = admitted_got c (length st.holds) st.head.end i f e in
      let room = k.room in
      let grown = holds_grow s f.bar f.signals st in
      let space = a.2 in
      record {
        bars = c;
        state = refl;
        sound = sound_step s f.bar f.signals st (table_lots table s meant) k.sound (fed-ok i f a.0 double) a.1;
        room = record { events = room.events; least = room.least; most = room.most; holds = omega arith };
      }

  -- a feed of any arguments, refused or done
  pub fed-next : (st : State) (b : List ℕ) (k : BookOf s st b) (i : Input) → T (fits binary64 i.price)
      → Next s st b k.bars (feed_do table b i) (feed_state s k.bars i st)
  unfolding feed_state stepped
  fed-next st b k i double =
      subst (λ x. Next s st b c x (feed_state s c i st)) (sym is) (go (admitted c (length st.holds) st.head.end i) refl)
    where
      c : ℕ
      c = k.bars

      next : Fed → Accepted State
      next f = record { after = step s f.bar f.signals st; report = report_of s f st }

      is : feed_do table b i ≡ (feed_state s c i st >>= λ a. Got (record { after = encode c a.after; report = a.report }))
      is =
          ap (λ (x : List ℕ). feed_do table x i) k.state
          ∙ feed_is table s c st i (ready table s c st (table_length_lem table s meant) meant k.sound k.room)

      go : (a : Answer Fed) → admitted c (length st.holds) st.head.end i ≡ a
          → Next s st b c ((a >>= λ f. Got (next f)) >>= λ y. Got (record { after = encode c y.after; report = y.report })) (a >>= λ f. Got (next f))
      go (Refused n) h = record { said = refl; book = k; bars = refl }
      go (Got f) h = record { said = refl; book = stepped st b k i f double h; bars = refl }
