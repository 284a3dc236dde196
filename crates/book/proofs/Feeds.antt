-- A feed on the book of a state answers as the plain machine does, in number, report and bytes. Assumes nothing.
use Prim.Native.Nat.{ℕ, ◌≤◌}
use native.Mathlib.Omega.{arith}
use mathlib.Core.Bool.{true}
use mathlib.Core.List.{List}
use mathlib.Core.Path.{◌≡◌, refl, ap}
use mathlib.Mathlib.Data.List.Defs.{Forall}
use lib.ListN.{length}
use borrow.Author.Tests.{eq-eqb}
use Rattle.text.specs.Answer.{Answer, Refused, Got, ◌>>=◌}
use Rattle.sheet.specs.Sheet.{Sheet}
use Rattle.position.specs.State.{State}
use Rattle.position.specs.Step.{Going, Fed, step_head, open_lots, step}
use Rattle.position.specs.Feed.{Input, line_input, admitted, Accepted, reported, report_of, feed_state}
use Rattle.position.specs.declared.Report.{Report}
use Rattle.position_laws.proofs.OneRecord.{one_record}
use Rattle.position_laws.proofs.Reach.{admitted_got}
use Rattle.table.specs.Layout.{table_length}
use Rattle.table.specs.Table.{read_table}
use Rattle.book.specs.Layout.{bar_limit, encode}
use Rattle.book.specs.Check.{header_ok}
use Rattle.book.specs.Calls.{fed, feed_on, feed_do, feed_line_do}
use Rattle.book.proofs.Fits.{HoldIn, HeadIn}
use Rattle.book.proofs.Lengths.{capacity-is}
use Rattle.book.proofs.Parts.{holds-count, head_read}
use Rattle.book.proofs.Last.{lots-read}
use Rattle.book.proofs.Link.{fed-is}

-- ---- a feed

abbrev accepted : {X : Type 0} → X → Report → Answer (Accepted X)
accepted x r = Got (record { after = x; report = r })

-- the table means s, and the book of st for c bars passes the header check and holds what st has
pub record Ready (table : List ℕ) (s : Sheet) (c : ℕ) (st : State) : Type 0 where
  pub sized : length table ≡ table_length
  pub meant : read_table table ≡ Got s
  pub least : 1 ≤ c
  pub most : c ≤ bar_limit
  pub holds : length st.holds ≤ c
  pub records : length st.records ≤ length st.holds
  pub checked : header_ok c (encode c st) ≡ true
  pub head : HeadIn st.head
  pub fits : Forall HoldIn st.holds

-- whatever reaches it
feeds-on : (table : List ℕ) (s : Sheet) (c : ℕ) (st : State) (input : Answer Input) → Ready table s c st
    → feed_on table (encode c st) input ≡ (input >>= λ i. feed_state s c i st >>= λ a. Got (record { after = encode c a.after; report = a.report }))
unfolding feed_on feed_state step report_of
feeds-on table s c st input r =
    let most = r.most in
    let within = r.holds in
    let less = r.records in
    rw (
      eq-eqb (length table) table_length r.sized,
      capacity-is c st within (omega arith) r.least most,
      r.meant,
      r.checked,
      holds-count c st (omega arith),
      head_read c st r.head,
      lots-read c st (omega arith) r.fits,
    )
    (reached input)
  where
    after : Fed → Going
    after f = step_head s f.bar f.signals (open_lots st.holds) st.head

    admits : Input → Answer Fed
    admits i = admitted c (length st.holds) st.head.end i

    accepts : Fed → Answer (Accepted (List ℕ))
    accepts f = accepted (fed c f.bar (after f) (encode c st)) (reported s f.signals (after f))

    steps : Fed → Answer (Accepted State)
    steps f = accepted (step s f.bar f.signals st) (report_of s f st)

    encodes : Accepted State → Answer (Accepted (List ℕ))
    encodes x = accepted (encode c x.after) x.report

    go : (i : Input) (a : Answer Fed) → admits i ≡ a → (a >>= accepts) ≡ (a >>= steps >>= encodes)
    go i (Refused n) e = refl
    go i (Got f) e =
        let most = r.most in
        let less = r.records in
        let space = (admitted_got c (length st.holds) st.head.end i f e).2 in
        let few = one_record s f.bar f.signals (open_lots st.holds) st.head in
        ap (λ (l : List ℕ). accepted l (reported s f.signals (after f))) (fed-is c f.bar (after f) st (omega arith) space (omega arith) r.fits)

    reached : (x : Answer Input) → (x >>= λ i. admits i >>= accepts) ≡ (x >>= λ i. admits i >>= steps >>= encodes)
    reached (Refused n) = refl
    reached (Got i) = go i (admits i) refl

pub feed_is : (table : List ℕ) (s : Sheet) (c : ℕ) (st : State) (i : Input) → Ready table s c st
    → feed_do table (encode c st) i ≡ (feed_state s c i st >>= λ a. Got (record { after = encode c a.after; report = a.report }))
unfolding feed_do
feed_is table s c st i r = feeds-on table s c st (Got i) r

pub line-is : (table : List ℕ) (s : Sheet) (c : ℕ) (st : State) (line signals : List ℕ) → Ready table s c st
    → feed_line_do table (encode c st) line signals
    ≡ (line_input line signals >>= λ i. feed_state s c i st >>= λ a. Got (record { after = encode c a.after; report = a.report }))
unfolding feed_line_do
line-is table s c st line signals r = feeds-on table s c st (line_input line signals) r
