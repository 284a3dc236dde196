-- The steps of an accepted bar: what is asked of its values, and what they say together. Assumes nothing.
use Rattle.std.specs.Prelude.{Option, Some, None}
use Prim.Native.Nat.{ℕ, ◌≤◌}
use native.Mathlib.Omega.{arith}
use mathlib.Core.Path.{◌≡◌, refl, sym, ap, ap₂, ◌∙◌}
use mathlib.Core.Bool.{Bool, true, false, cond, ◌||◌}
use mathlib.Core.List.{List, [], ◌∷◌}
use mathlib.Core.Logic.{◌≢◌}
use borrow.Author.Tests.{ne_eqb}
use lib.Dec.{eqb}
use lib.Ieee.Scale.{finite}
use lib.IntN.{ℤ}
use lib.Signed.{lt_z}
use mir.Syntax.{w64}
use mir.Val.{SFits}
use mir.Facts.{to_z-of_z}
use Rattle.position.specs.declared.LastEvent.{LastEvent}
use Rattle.le.specs.Field.{u32, i64}
use Rattle.le.proofs.Signs.{back}
use Rattle.operate.specs.Operate.{LO, SO}
use Rattle.bar.specs.declared.Bar.{Bar}
use Rattle.sheet.specs.Sheet.{Sheet}
use Rattle.event.specs.Signals.{Line}
use Rattle.event.specs.Match.{first_match}
use Rattle.position.specs.Step.{Going, choose, choice_of, going, step_head, decided}
use Rattle.position.specs.Feed.{reported}
use Rattle.position.specs.declared.Choice.{Choice}
use Rattle.position.specs.declared.Head.{Head}
use Rattle.position.specs.declared.Record.{Record}
use Rattle.position.specs.declared.Report.{Report}
use Rattle.table.specs.Layout.{settings_in, parts_in}
use Rattle.table.specs.Table.{sheet_of}
use Rattle.table.specs.declared.Settings.{Settings}
use Rattle.book.specs.Layout.{head_of}
use Rattle.book.specs.Calls.{open_lots_in, fed}
use Rattle.book_header.specs.Size.{priced}
use Rattle.table_match.specs.First.{Below}
use Rattle.position_machine.specs.Update.{of_settings, wrote_of, going_of, TimesOk}
use Rattle.position_machine.specs.declared.Update.{Update}
use Rattle.position_machine.proofs.Going.{settings_only, update_bar, going-reference}
use Rattle.book_write.specs.Write.{BookPassed, BarPassed, wrote_priced, Priced}
use Rattle.book_write.proofs.Written.{counts}
use Rattle.book_feed_step.specs.Steps.{decided_by, reported_by, in_time, taken}

-- ---- the report

decided-is : (s : Sheet) (ls : List Line) (rs : List Record) → decided_by (first_match s.events ls) rs ≡ decided s ls rs
unfolding decided
decided-is s ls [] = refl
decided-is s ls (r ∷ rs) = refl

reported-is : (s : Sheet) (ls : List Line) (g : Going) → reported_by (first_match s.events ls) g ≡ reported s ls g
unfolding reported
reported-is s ls g = ap (λ d. record { pos = g.head.pos; changed = g.head.changed; decision = d }) (decided-is s ls g.wrote)

-- an event below one bound is below another
pub below_more : {n k : ℕ} (m : Option ℕ) → Below n m → n ≤ k → Below k m
below_more (Some i) b h = omega arith
below_more None b h = tt

-- ---- what is asked of times and prices

module _ {bar : Bar} (i : BarPassed bar) where
  wrote-priced : (s : Sheet) (ch : Choice) (lots : ℕ) (h : Head) (w : Option Record) → wrote_of w ≡ (going s bar ch lots h).wrote → wrote_priced w ≡ true
  wrote-priced s ch lots h None e = refl
  wrote-priced s ch lots h (Some r) e = ap (λ (x : Bar). finite x.price) (update_bar s bar ch lots h r (sym e)) ∙ i.price

  reference-priced : (x : Bool) (ch : Choice) (r : Option LastEvent) → priced r ≡ true
      → priced (cond x (Some (record { bar = bar; operate = ch.operate; event = ch.event })) r) ≡ true
  reference-priced true ch r e = i.price
  reference-priced false ch r e = e

  module _ {b : List ℕ} {c : ℕ} (ok : BookPassed b c) {h : Head} (read : h ≡ head_of b) where
    pub times_in : TimesOk bar h
    times_in = rw read (record { bar = i.time; long = (counts ok).head.long; short = (counts ok).head.short })

    pub prices_in : (s : Sheet) (ch : Choice) (lots : ℕ) {u : Update} → going_of u ≡ going s bar ch lots h → Priced u
    prices_in s ch lots {u} e = record {
      reference =
          ap (λ (g : Going). priced g.head.reference) e ∙ ap priced (going-reference s bar ch lots h)
          ∙ reference-priced (eqb ch.operate LO || eqb ch.operate SO) ch h.reference (rw read (counts ok).head.reference);
      wrote = wrote-priced s ch lots h u.wrote (ap (λ (g : Going). g.wrote) e);
    }

-- ---- an accepted bar

module _ (t b : List ℕ) (c : ℕ) (bar : Bar) (ls : List Line) where
  abbrev sheet : Sheet
  sheet = sheet_of (parts_in t)

  module _ (m : Option ℕ) (u : Update) {ch : Choice} {k : Settings} {lots : ℕ} {h : Head} where
    pub taken_is : {after : List ℕ} {r : Report}
        → m ≡ first_match sheet.events ls → ch ≡ choice_of sheet.events (m) → k ≡ settings_in t → lots ≡ open_lots_in b → h ≡ head_of b
        → going_of u ≡ going (of_settings k) bar ch lots h → after ≡ fed c bar (going_of u) b → r ≡ reported_by (m) (going_of u)
        → record { after = after; report = r } ≡ taken t c bar ls b
    unfolding taken step_head choose
    taken_is em ec ek el eh eg ea er =
        let is : going_of u ≡ step_head sheet bar ls (open_lots_in b) (head_of b) =
        eg ∙ ap (λ (n : ℕ). going (of_settings k) bar ch n h) el ∙ ap₂ (λ (k : Settings) (h : Head). going (of_settings k) bar ch (open_lots_in b) h) ek eh
        ∙ sym (settings_only t bar ch (open_lots_in b) (head_of b))
        ∙ ap (λ (x : Choice). going sheet bar x (open_lots_in b) (head_of b)) (ec ∙ ap (choice_of sheet.events) em)
        in
        ap₂ (λ (x : List ℕ) (y : Report). record { after = x; report = y }) (ea ∙ ap (λ (g : Going). fed c bar g b) is)
        (er ∙ ap₂ reported_by em is ∙ reported-is sheet ls (step_head sheet bar ls (open_lots_in b) (head_of b)))
