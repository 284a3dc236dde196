-- The header of a sound state passes the header check, whatever is behind it, where the last hold's slot does. Assumes nothing.
use Rattle.std.specs.Prelude.{Option, None, Some, Float}
use Prim.Native.Nat.{ℕ, ◌-◌, ◌*◌, ◌+◌, ◌≤◌}
use native.Mathlib.Omega.{arith}
use mathlib.Core.Bool.{Bool, true, false, ◌||◌}
use mathlib.Core.List.{List, ◌++◌}
use mathlib.Core.Path.{◌≡◌, refl, ap, ap₂, ◌∙◌}
use lib.Dec.{ltb, leb, eqb}
use lib.Ieee.Scale.{finite}
use lib.ListN.{length}
use lib.Signed.{le_z}
use borrow.Author.Tests.{lt-ltb, le-leb, eq-eqb}
use Rattle.double.specs.declared.Yield.{Yield}
use Rattle.double.specs.declared.Yield.TheVariants.{Absent}
use Rattle.le.specs.Le.{part, le_bytes, sign_bits}
use Rattle.le.specs.Field.{u8, u32, i64, f64, put_i32, put_i64}
use Rattle.le.proofs.Laws.{le_nat-le_bytes}
use Rattle.text.specs.Text.{same}
use Rattle.text.proofs.Conditions.{none_left, ◌also◌, sure}
use Rattle.text.proofs.Same.{same_refl}
use Rattle.operate.specs.Operate.{LO, SO}
use Rattle.bar.specs.Bar.{last_id, time_ok}
use Rattle.bar.specs.declared.Time.{Time}
use Rattle.sheet.specs.Sheet.{Sheet}
use Rattle.position.specs.State.{pos_code}
use Rattle.position.specs.declared.LastEvent.{LastEvent}
use Rattle.position.specs.declared.Head.{Head}
use Rattle.position.specs.declared.Hold.{Hold}
use Rattle.position_laws.proofs.Sound.{OpenOk, HoldOk, ReferenceOk, HeadOk}
use Rattle.book.specs.Layout.{bar_limit, flag, time_bytes, open_flag, open_time, reference_flag, reference_operate, reference_bytes, head_bytes, yield_flag, hold_bytes, time_at, open_at, reference_at, head_of, hold_place}
use Rattle.book.specs.Check.{counts_ok, open_ok, reference_ok, last_ok, used_ok}
use Rattle.book.proofs.Fits.{HeadIn}
use Rattle.book.proofs.Back.{head_back, holds_back, records_back}
use Rattle.book.proofs.Entries.{pos_low, hold_passes}

flag-low : (t : Bool) → leb (flag t) 1 ≡ true
flag-low true = refl
flag-low false = refl

-- ---- an open, the reference: as the bytes b have them

-- the reference in a header
abbrev referred : List ℕ → LastEvent
referred b = record { bar = record { id = u32 b 68; time = time_at b 72 80; price = f64 b 88 }; operate = u8 b 29; event = u32 b 84 }

module _ (b : List ℕ) (end : Time) (past : i64 b 32 ≡ end.instant.0) where
  open_passes : (at offset : ℕ) (o : Option Time) → part b at 8 ≡ put_i64 (open_time o).instant.0 → part b offset 4 ≡ put_i32 (open_time o).offset
      → open_at (open_flag o) (time_at b at offset) ≡ o → OpenOk end o → open_ok b (open_flag o) at offset ≡ true
  unfolding same le_bytes sign_bits
  open_passes at offset None p q back h = rw (p, q) refl
  open_passes at offset (Some t) p q back h =
      let e : time_at b at offset ≡ t = ap open_time back in
      rw (ap time_ok e ∙ h.0, ap₂ le_z (ap (λ (x : Time). x.instant.0) e) past ∙ h.1) refl

  module _ (s : Sheet) where
    reference_passes : (r : Option LastEvent) → u8 b 29 ≡ reference_operate r → part b 68 28 ≡ reference_bytes r
        → reference_at (reference_flag r) (referred b) ≡ r → ReferenceOk s end r → reference_ok b (reference_flag r) ≡ true
    unfolding same
    reference_passes None p q back h = rw (p, q) refl
    reference_passes (Some r) p q back h =
        let e : referred b ≡ r = cc in
        rw (
          ap (λ (x : LastEvent). eqb x.operate LO || eqb x.operate SO) e ∙ h.operate,
          ap (λ (x : LastEvent). leb x.bar.id last_id) e ∙ le-leb r.bar.id last_id h.bar.id,
          ap (λ (x : LastEvent). time_ok x.bar.time) e ∙ h.bar.time,
          ap₂ le_z (ap (λ (x : LastEvent). x.bar.time.instant.0) e) past ∙ h.past,
          ap (λ (x : LastEvent). finite x.bar.price) e ∙ h.bar.price,
        )
        refl

    event_passes : (r : Option LastEvent) → reference_at (reference_flag r) (referred b) ≡ r → ReferenceOk s end r
        → (eqb (reference_flag r) 0 || ltb (u32 b 84) (length s.events)) ≡ true
    event_passes None back h = refl
    event_passes (Some r) back h =
        let e : referred b ≡ r = cc in
        ap (λ (x : LastEvent). ltb x.event (length s.events)) e ∙ lt-ltb r.event (length s.events) h.event

-- ---- the header

reference-place : (r : Option LastEvent) (rest : List ℕ) → part (reference_bytes r ++ rest) 0 28 ≡ reference_bytes r
unfolding part le_bytes
reference-place None rest = refl
reference-place (Some r) rest = refl

module _ (c hs rs : ℕ) (h : Head) (rest : List ℕ) where
  -- the header, and what is behind it
  abbrev pub headed : List ℕ
  headed = head_bytes c hs rs h ++ rest

  pub counts_pass : c ≤ bar_limit → rs ≤ hs → hs ≤ c → counts_ok c headed ≡ true
  unfolding counts_ok head_bytes part le_bytes
  counts_pass most few room =
      sure
      (eq-eqb (u32 headed 8) c (le_nat-le_bytes 4 c (omega arith))
      also eq-eqb (u32 headed 12) 96 (le_nat-le_bytes 4 96 (omega arith))
      also eq-eqb (u32 headed 16) (96 + 32 * c) (le_nat-le_bytes 4 (96 + 32 * c) (omega arith))
      also eq-eqb (u32 headed 20) (96 + 64 * c) (le_nat-le_bytes 4 (96 + 64 * c) (omega arith))
      also ap₂ leb (records_back c hs rs h rest (omega arith)) (holds_back c hs rs h rest (omega arith)) ∙ le-leb rs hs few
      also ap (λ (n : ℕ). leb n c) (holds_back c hs rs h rest (omega arith)) ∙ le-leb hs c room
      also none_left)

  pub last_passes : (o : Hold) → HoldOk o → o.time ≡ h.end → o.pos ≡ h.pos → o.n1b ≡ Absent → last_ok headed (hold_bytes o) ≡ true
  unfolding last_ok head_bytes hold_bytes part le_bytes
  last_passes o ok time pos n1b =
      sure
      (hold_passes o ok
      also ap (λ (t : Time). same (time_bytes t) (time_bytes h.end)) time ∙ same_refl (time_bytes h.end)
      also eq-eqb (pos_code o.pos) (pos_code h.pos) (ap pos_code pos)
      also ap (λ (y : Yield). eqb (yield_flag y) 0) n1b
      also none_left)

  module _ (s : Sheet) (fits : HeadIn h) (ok : HeadOk s h) where
    past : i64 headed 32 ≡ h.end.instant.0
    unfolding head_of
    past = ap (λ (x : Head). x.end.instant.0) (head_back c hs rs h rest fits)

    pub used_passes : last_ok headed (part headed (hold_place (u32 headed 0 - 1)) 32) ≡ true → used_ok headed ≡ true
    unfolding used_ok head_of head_bytes part le_bytes same
    used_passes last =
        let back = head_back c hs rs h rest fits in
        sure
        (pos_low h.pos
        also flag-low h.changed
        also refl
        also ap (λ (x : Head). time_ok x.end) back ∙ ok.end
        also open_passes headed h.end past 48 44 h.long refl refl (ap (λ (x : Head). x.long) back) ok.long
        also open_passes headed h.end past 56 64 h.short refl refl (ap (λ (x : Head). x.short) back) ok.short
        also reference_passes headed h.end past s h.reference refl (reference-place h.reference rest) (ap (λ (x : Head). x.reference) back) ok.reference
        also last
        also none_left)

    pub named_passes : (eqb (u8 headed 28) 0 || ltb (u32 headed 84) (length s.events)) ≡ true
    unfolding head_of head_bytes part le_bytes
    named_passes =
        event_passes headed h.end past s h.reference (ap (λ (x : Head). x.reference) (head_back c hs rs h rest fits)) ok.reference
