-- The bars that were fed, one by one: their lines, and the book that they leave. Assumes nothing.
use Prim.Native.Nat.{ℕ, ◌+◌}
use native.Mathlib.Omega.{arith}
use mathlib.Core.List.{List, [], ◌∷◌, ◌++◌, append_assoc, append-nil}
use mathlib.Core.Path.{◌≡◌, refl, sym, ap, subst, ◌∙◌}
use lib.Dec.{T}
use lib.Ieee.{binary64, fits}
use lib.ListN.{length, replicate}
use Rattle.text.specs.Answer.{Got, number}
use Rattle.text.specs.Read.{Put}
use Rattle.text.proofs.Put.{put-none, put-put}
use Rattle.sheet.specs.Sheet.{Sheet}
use Rattle.table.specs.Table.{read_table}
use Rattle.position.specs.State.{State, fresh_state}
use Rattle.position.specs.Feed.{Input, feed_state}
use Rattle.position.specs.Cases.{state_after}
use Rattle.position.specs.Run.{run_bars, feed_line, next_state, feed_all}
use Rattle.book.specs.Layout.{head_of}
use Rattle.book.specs.Calls.{feed_do}
use Rattle.book.proofs.Parts.{head_read}
use Rattle.book.proofs.Passes.{head_fits}
use Rattle.history.proofs.Invariant.{BookOf}
use Rattle.history.proofs.Answered.{Cleared}
use Rattle.history.proofs.Booked.{Next, cleared, cleared_bars, fed-next}
use Rattle.run_rows.specs.Rows.{Booked}
use Rattle.run_feed_one.specs.One.{Held, bar_line_of, FedOne}
use Rattle.run_feed.specs.Steps.{fed_lines, FedAll}

-- ---- the lines

-- what is printed: the lines of the bars, then the rows
pub fed-all : (s : Sheet) (st : State) (is : List Input) → feed_all s st is ≡ fed_lines s st is ++ feed_all s (state_after s st is) []
unfolding feed_all fed_lines state_after
fed-all s st [] = refl
fed-all s st (i ∷ is) =
    let a = feed_state s run_bars i st in
    let next = next_state st a in
    ap (λ (l : List ℕ). feed_line (number a) next ++ l) (fed-all s next is)
    ∙ sym (append_assoc (feed_line (number a) next) (fed_lines s next is) (feed_all s (state_after s next is) []))

state-more : (s : Sheet) (st : State) (is : List Input) (i : Input)
    → state_after s st (is ++ i ∷ []) ≡ next_state (state_after s st is) (feed_state s run_bars i (state_after s st is))
unfolding state_after
state-more s st [] i = refl
state-more s st (j ∷ is) i = state-more s (next_state st (feed_state s run_bars j st)) is i

lines_more : (s : Sheet) (st : State) (is : List Input) (i : Input)
    → fed_lines s st (is ++ i ∷ [])
    ≡ fed_lines s st is ++ feed_line (number (feed_state s run_bars i (state_after s st is))) (next_state (state_after s st is) (feed_state s run_bars i (state_after s st is)))
unfolding fed_lines state_after
lines_more s st [] i = append-nil (feed_line (number (feed_state s run_bars i st)) (next_state st (feed_state s run_bars i st)))
lines_more s st (j ∷ is) i =
    let a = feed_state s run_bars j st in
    let next = next_state st a in
    let after = state_after s next is in
    let b = feed_state s run_bars i after in
    ap (λ (l : List ℕ). feed_line (number a) next ++ l) (lines_more s next is i)
    ∙ sym (append_assoc (feed_line (number a) next) (fed_lines s next is) (feed_line (number b) (next_state after b)))

-- ---- the book

head-is : {s : Sheet} {st : State} {b : List ℕ} (k : BookOf s st b) → head_of b ≡ st.head
head-is {s} {st} k = ap head_of k.state ∙ head_read k.bars st (head_fits s k.bars st k.sound k.room)

unfoldable pub booked : {table b out : List ℕ} {at : ℕ} {sheet : Sheet} {done : List Input} → FedAll table b out at sheet done → Booked table b
booked {sheet = sheet} {done = done} f =
    record { sheet = sheet; state = state_after sheet fresh_state done; meant = f.meant; book = f.book.0; bars = f.book.1 }

-- ---- no bar, and one more

pub fed-none : (table b x out : List ℕ) (sheet : Sheet) → read_table table ≡ Got sheet → (e : Cleared b x) → e.0 ≡ run_bars → out ≡ replicate (length out) 0
    → FedAll table x out 0 sheet []
unfolding state_after fed_lines
fed-none table b x out sheet meant e c z =
    record {
      meant = meant;
      book = (cleared table sheet meant b x e, cleared_bars table sheet meant b x e ∙ c);
      printed = subst (λ (o : List ℕ). Put (replicate (length out) 0) o 0 [] 0) (sym z) (put-none (replicate (length out) 0) 0 (omega arith));
    }

module _ {table b next : List ℕ} {i : Input} {out more : List ℕ} {at r : ℕ} {sheet : Sheet} {done : List Input} where
  pub fed-step : FedAll table b out at sheet done → T (fits binary64 i.price) → FedOne table b next i out more at r → FedAll table next more r sheet (done ++ i ∷ [])
  unfolding feed_line
  fed-step f double one =
      let st = state_after sheet fresh_state done in
      let a = feed_state sheet run_bars i st in
      let k = f.book.0 in
      let n : Next sheet st b run_bars (feed_do table b i) a =
      subst (λ (c : ℕ). Next sheet st b c (feed_do table b i) (feed_state sheet c i st)) f.book.1 (fed-next table sheet f.meant st b k i double) in
      let held : Held sheet (next_state st a) next = subst (Held sheet (next_state st a)) (sym one.book) (n.book, n.bars) in
      let head : head_of next ≡ (next_state st a).head = head-is held.0 in
      let size : length more ≡ length out = one.line.put.kept in
      let same : bar_line_of (feed_do table b i) next ≡ feed_line (number a) (next_state st a) = rw (n.said, head) in
      record {
        meant = f.meant;
        book = rw (state-more sheet fresh_state done i) held;
        printed = rw (size, lines_more sheet fresh_state done i, ← same) (put-put f.printed one.line.put);
      }
