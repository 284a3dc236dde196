-- A sound hold and a sound record pass their checks in their bytes, and lists of them rise. Assumes nothing.
use Rattle.std.specs.Prelude.{Option, None, Some}
use Prim.Native.Nat.{ℕ, ◌≤◌}
use mathlib.Core.Bool.{true, not, and-eq-true_iff}
use mathlib.Core.List.{List, [], ◌∷◌, map}
use mathlib.Core.Path.{◌≡◌, refl, ap, ◌∙◌}
use mathlib.Mathlib.Data.List.Defs.{Forall}
use mathlib.Mathlib.Data.List.Basic.{Forall-cons}
use lib.Dec.{ltb, leb}
use lib.Ieee.{Float, is_nan}
use lib.Ieee.Scale.{finite}
use lib.ListN.{length}
use borrow.Author.Tests.{lt-ltb, le-leb}
use Rattle.double.specs.declared.Yield.{Yield}
use Rattle.double.specs.declared.Yield.TheVariants.{Absent, Bp}
use Rattle.le.specs.Le.{part, le_bytes, le_nat}
use Rattle.le.specs.Field.{u16, i64, put16}
use Rattle.le.proofs.Laws.{le_nat-le_bytes}
use Rattle.le.proofs.Fields.{double_back}
use Rattle.text.specs.Text.{same}
use Rattle.text.proofs.Conditions.{none_left, ◌also◌, sure}
use Rattle.bar.specs.Bar.{last_id, time_ok}
use Rattle.bar.specs.declared.Time.{Time}
use Rattle.sheet.specs.Sheet.{Sheet, lots_limit, lots_ok}
use Rattle.position.specs.State.{pos_code}
use Rattle.position.specs.Step.{held_lots}
use Rattle.position.specs.declared.Pos.{Pos}
use Rattle.position.specs.declared.Pos.TheVariants.{Short, Flat, Long}
use Rattle.position.specs.declared.Description.{Description}
use Rattle.position.specs.declared.Description.TheVariants.{Event, Stop, Timeout}
use Rattle.position.specs.declared.Record.{Record}
use Rattle.position.specs.declared.Hold.{Hold}
use Rattle.position_laws.proofs.OneRecord.{Named}
use Rattle.position_laws.proofs.Sound.{Rising, YieldOk, LotsFor, HoldOk, RecordOk, hold_time, record_time}
use Rattle.book.specs.Layout.{pos_at, hold_bytes, hold_of, yield_flag, record_bytes, record_of, description_code, description_event}
use Rattle.book.specs.Check.{stored_yield_ok, hold_ok, description_ok, record_ok, rising}
use Rattle.book.proofs.Fits.{DescriptionIn}
use Rattle.book.proofs.Back.{hold_back, record_back}
use Rattle.book.proofs.Ranges.{lots_in_lem, hold_in_lem, record_in}

pub pos_low : (p : Pos) → leb (pos_code p) 2 ≡ true
pos_low Short = refl
pos_low Flat = refl
pos_low Long = refl

-- ---- a hold

yield_passes : (t : Time) (p : Pos) (price : Float) (y : Yield) (n : ℕ) → YieldOk y
    → stored_yield_ok (hold_bytes (record { time = t; pos = p; price = price; n1b = y; lots = n })) (yield_flag y) ≡ true
unfolding hold_bytes part le_bytes same
yield_passes t p price Absent n h = refl
yield_passes t p price (Bp x) n h = ap (λ (z : Float). not (is_nan z)) (double_back x h.1) ∙ ap not h.0

lots_pass : (n : ℕ) → lots_ok n ≡ true → leb (le_nat (put16 n)) lots_limit ≡ true
lots_pass n h = rw (le_nat-le_bytes 2 n (lots_in_lem n h).1) ((and-eq-true_iff (leb 1 n) (leb n lots_limit)).0 h).1

held_pass : (p : Pos) (n : ℕ) → LotsFor p n → leb (le_nat (put16 n)) (held_lots (pos_at (pos_code p)) lots_limit) ≡ true
unfolding le_bytes le_nat
held_pass Short n h = lots_pass n h
held_pass Flat n h = rw h refl
held_pass Long n h = lots_pass n h

pub hold_passes : (o : Hold) → HoldOk o → hold_ok (hold_bytes o) ≡ true
unfolding hold_ok hold_bytes hold_of part le_bytes same
hold_passes o h =
    let back = hold_back o (hold_in_lem o h) in
    sure
    (ap (λ (x : Hold). time_ok x.time) back ∙ h.time
    also pos_low o.pos
    also yield_passes o.time o.pos o.price o.n1b o.lots h.n1b
    also held_pass o.pos o.lots h.lots
    also ap (λ (x : Hold). finite x.price) back ∙ h.price
    also none_left)

-- ---- a record

description_passes : (s : Sheet) (d : Description) → DescriptionIn d → Named s d
    → description_ok (length s.events) (description_code d) (u16 (put16 (description_event d)) 0) ≡ true
unfolding part le_bytes le_nat
description_passes s (Event i) h k = ap (λ (n : ℕ). ltb n (length s.events)) (le_nat-le_bytes 2 i h) ∙ lt-ltb i (length s.events) k
description_passes s Stop h k = refl
description_passes s Timeout h k = refl

pub record_passes : (s : Sheet) (r : Record) → length s.events ≤ 32 → RecordOk s r → record_ok (length s.events) (record_bytes r) ≡ true
unfolding record_ok record_bytes record_of part le_bytes
record_passes s r few h =
    let fits = record_in s r few h in
    let back = record_back r fits in
    sure
    (ap (λ (x : Record). time_ok x.bar.time) back ∙ h.bar.time
    also ap (λ (x : Record). leb x.bar.id last_id) back ∙ le-leb r.bar.id last_id h.bar.id
    also ap (λ (x : Record). finite x.bar.price) back ∙ h.bar.price
    also h.operate
    also pos_low r.pos
    also description_passes s r.description fits.description h.named
    also refl
    also lots_pass r.lots h.lots
    also none_left)

-- ---- a list of them: "instants strictly rising"

rising_passes : {A : Type 0} {P : A → Type 0} (item : A → List ℕ) (time : A → Time) → ((x : A) → P x → i64 (item x) 0 ≡ (time x).instant.0)
    → (xs : List A) → Forall P xs → Rising time xs → rising (map item xs) ≡ true
unfolding rising
rising_passes item time at [] h r = refl
rising_passes item time at (x ∷ []) h r = refl
rising_passes {P = P} item time at (x ∷ y ∷ xs) h r =
    let one = (Forall-cons P x (y ∷ xs)).0 h in
    let two = (Forall-cons P y xs).0 one.1 in
    rw (at x one.0, at y two.0, r.0) (rising_passes item time at (y ∷ xs) one.1 r.1)

pub holds-rise : (os : List Hold) → Forall HoldOk os → Rising hold_time os → rising (map hold_bytes os) ≡ true
unfolding hold_of
holds-rise os h r = rising_passes hold_bytes hold_time (λ o k. ap (λ (x : Hold). x.time.instant.0) (hold_back o (hold_in_lem o k))) os h r

pub records-rise : (s : Sheet) (rs : List Record) → length s.events ≤ 32 → Forall (RecordOk s) rs → Rising record_time rs → rising (map record_bytes rs) ≡ true
unfolding record_of
records-rise s rs few h r =
    rising_passes record_bytes record_time (λ q k. ap (λ (x : Record). x.bar.time.instant.0) (record_back q (record_in s q few k))) rs h r
