-- A bar's writes, one after another, are the book after the bar. Assumes nothing.
use Rattle.std.specs.Prelude.{Option, None, Some}
use Prim.Native.Nat.{ℕ, ◌+◌, ◌-◌, ◌*◌, ◌≤◌}
use native.Mathlib.Omega.{arith}
use mathlib.Core.Path.{◌≡◌, refl, sym, ap, ◌∙◌, subst}
use mathlib.Core.Bool.{true}
use mathlib.Core.List.{List}
use mathlib.Core.Logic.{◌≢◌}
use borrow.Author.Tests.{ne_eqb}
use denote.Floats.{passes, is_true}
use lib.Ieee.Scale.{finite}
use lib.ListN.{length, take, drop}
use Rattle.le.specs.Le.{part, patch}
use Rattle.le.specs.Field.{u32}
use Rattle.le.proofs.Laws.{part_lent}
use Rattle.text.proofs.Put.{patch-none}
use Rattle.double.specs.Double.{hold_yield, yield_ok}
use Rattle.double.proofs.Numbers.{hold_number}
use Rattle.bar.specs.declared.Bar.{Bar}
use Rattle.position.specs.Step.{Going, settle, new_hold}
use Rattle.position.specs.declared.Hold.{Hold}
use Rattle.position.specs.declared.Record.{Record}
use Rattle.book.specs.Layout.{head_bytes, hold_bytes, hold_of, record_bytes, records_bytes, hold_place, record_place}
use Rattle.book.specs.Calls.{open_lots_in, settled, fed}
use Rattle.book.proofs.Items.{items_one}
use Rattle.book.proofs.Lengths.{records-written}
use Rattle.book_entry.specs.Numbers.{HoldNumbers}
use Rattle.book_header_check.proofs.Passed.{Passed, passed}
use Rattle.position_machine.specs.Update.{wrote_of, going_of}
use Rattle.position_machine.specs.declared.Update.{Update}
use Rattle.book_write.specs.Write.{BookPassed, BarPassed}

-- ---- what is known of the book

module _ {b : List ℕ} {c : ℕ} (ok : BookPassed b c) where
  pub counts : Passed c b
  counts = passed c b ok.header

-- ---- holds that can be written

module _ {bar : Bar} (i : BarPassed bar) where
  pub settled_numbers : (o : Hold) {p : Hold} → p ≡ settle bar o → finite o.price ≡ true → HoldNumbers p
  unfolding settle
  settled_numbers o e f = rw e (record { price = f; n1b = is_true (yield_ok (hold_yield o.price bar.price)) (hold_number o.price bar.price (passes (finite bar.price) i.price)) })

  pub new_numbers : (g : Going) {p : Hold} → p ≡ new_hold bar g → HoldNumbers p
  unfolding new_hold
  new_numbers g e = rw e (record { price = i.price; n1b = refl })

-- ---- the last hold

module _ (b : List ℕ) {hs : ℕ} (counted : hs ≡ u32 b 0) where
  pub lots-none : hs ≡ 0 → 0 ≡ open_lots_in b
  unfolding open_lots_in
  lots-none e = rw (← counted, e) refl

  module _ {o : Hold} (read : o ≡ hold_of (take (96 + 32 * (hs - 1) + 32 - (96 + 32 * (hs - 1))) (drop (96 + 32 * (hs - 1)) b))) where
    last-is : o ≡ hold_of (part b (hold_place (u32 b 0 - 1)) 32)
    last-is = rw (← counted) (read ∙ ap hold_of (part_lent b (hold_place (hs - 1)) 32))

    pub lots_some : hs ≢ 0 → o.lots ≡ open_lots_in b
    unfolding open_lots_in
    lots_some h = rw (ne_eqb (u32 b 0) 0 (λ e. h (counted ∙ e))) (ap (λ (x : Hold). x.lots) last-is)

    pub last-priced : {c : ℕ} → BookPassed b c → hs ≢ 0 → finite o.price ≡ true
    unfolding hold_of
    last-priced ok h = rw last-is ((counts ok).last (λ e. h (counted ∙ e))).price

    pub settled_some : (bar : Bar) {p : Hold} {m : List ℕ} → hs ≢ 0 → p ≡ settle bar o → m ≡ patch b (96 + 32 * (hs - 1)) (hold_bytes p) → m ≡ settled bar b
    unfolding settled
    settled_some bar h s w = w ∙ rw (← counted, ne_eqb hs 0 h, s) (ap (λ (x : Hold). patch b (96 + 32 * (hs - 1)) (hold_bytes (settle bar x))) (rw counted last-is))

  pub settled-none : (bar : Bar) → hs ≡ 0 → b ≡ settled bar b
  unfolding settled
  settled-none bar e = rw (← counted, e) refl

-- ---- the records

pub wrote-few : (w : Option Record) → length (wrote_of w) ≤ 1
wrote-few None = omega arith
wrote-few (Some r) = omega arith

module _ (b : List ℕ) (at : ℕ) where
  -- what `put_wrote` says
  abbrev pub Recorded : Option Record → List ℕ → ℕ → Type 0
  Recorded w m n = (m ≡ patch b at (records_bytes (wrote_of w))) × (n ≡ length (wrote_of w))

  pub recorded_none : {w : (Option Record)} → w ≡ None → Recorded w b 0
  recorded_none e = subst (λ (w : Option Record). Recorded w b 0) (sym e) (patch-none b at ∙ ap (patch b at) (sym records-written.none), refl)

  pub recorded_one : {w : (Option Record)} {r : Record} {m : List ℕ} → w ≡ Some r → m ≡ patch b at (record_bytes r) → Recorded w m 1
  recorded_one {r = r} {m = m} e f = subst (λ (w : Option Record). Recorded w m 1) (sym e) (f ∙ ap (patch b at) (sym (items_one records-written r)), refl)

-- ---- the book

pub written : (b : List ℕ) (c : ℕ) (bar : Bar) (u : Update) {hs rs n : ℕ} {o : Hold} {b1 b2 b3 b4 : List ℕ}
    → hs ≡ u32 b 0 → rs ≡ u32 b 4 → b1 ≡ settled bar b → o ≡ new_hold bar (going_of u) → b2 ≡ patch b1 (hold_place hs) (hold_bytes o)
    → Recorded b2 (record_place c rs) u.wrote b3 n → b4 ≡ patch b3 0 (head_bytes c (hs + 1) (rs + n) u.head) → b4 ≡ fed c bar (going_of u) b
unfolding fed
written b c bar u e0 e1 e2 e3 e4 e5 e6 = e6 ∙ rw (e5.1, e5.0, e4, e3, e2, e1, e0) refl
