-- What is sound fits the bytes of a book: times, bars, yields, holds, records, the head. Assumes nothing.
use Rattle.std.specs.Prelude.{Option, None, Some, Float}
use Prim.Native.Nat.{ℕ, ◌^◌, ◌≤◌, ◌<◌}
use native.Mathlib.Omega.{arith}
use mathlib.Core.Bool.{true, and-eq-true_iff, false≢true}
use mathlib.Core.Path.{◌≡◌}
use lib.Dec.{leb}
use lib.IntN.{ℤ, pos, negsuc}
use lib.ListN.{length}
use lib.Signed.{mag, le_z}
use borrow.Author.Tests.{leb-true}
use Rattle.double.specs.declared.Yield.{Yield}
use Rattle.double.specs.declared.Yield.TheVariants.{Absent, Bp}
use Rattle.position.specs.declared.LastEvent.{LastEvent}
use Rattle.bar.specs.Bar.{last_instant, instant_ok, offset_ok, time_ok}
use Rattle.bar.specs.declared.Time.{Time}
use Rattle.bar.specs.declared.Bar.{Bar}
use Rattle.sheet.specs.Sheet.{Sheet, lots_limit, lots_ok}
use Rattle.position.specs.declared.Pos.{Pos}
use Rattle.position.specs.declared.Pos.TheVariants.{Short, Flat, Long}
use Rattle.position.specs.declared.Head.{Head}
use Rattle.position.specs.declared.Description.{Description}
use Rattle.position.specs.declared.Description.TheVariants.{Event, Stop, Timeout}
use Rattle.position.specs.declared.Record.{Record}
use Rattle.position.specs.declared.Hold.{Hold}
use Rattle.position_laws.proofs.OneRecord.{Named}
use Rattle.position_laws.proofs.Sound.{BarOk, YieldOk, LotsFor, HoldOk, RecordOk, OpenOk, ReferenceOk, HeadOk}
use Rattle.book.proofs.Fits.{TimeIn, BarIn, YieldIn, LotsIn, HeldIn, HoldIn, DescriptionIn, RecordIn, OpenIn, ReferenceIn, HeadIn}

-- ---- times

instant_in : (z : ℤ) → instant_ok z ≡ true → mag z < 2 ^ 63
instant_in (pos n) h = omega (arith, leb-true n last_instant ((and-eq-true_iff (le_z (pos 0) (pos n)) (le_z (pos n) (pos last_instant))).0 h).1)
instant_in (negsuc n) h = absurd (false≢true h)

offset_in : (z : ℤ) → offset_ok z ≡ true → mag z < 2 ^ 31
offset_in (pos n) h = omega (arith, leb-true n 86_399 h)
offset_in (negsuc n) h = omega (arith, leb-true n 86_398 ((and-eq-true_iff (le_z (negsuc 86_398) (negsuc n)) true).0 h).0)

pub time_in : (t : Time) → time_ok t ≡ true → TimeIn t
time_in t h =
    let both = (and-eq-true_iff (instant_ok t.instant.0) (offset_ok t.offset)).0 h in
    record { instant = instant_in t.instant.0 both.0; offset = offset_in t.offset both.1 }

bar_in_lem : (b : Bar) → BarOk b → BarIn b
bar_in_lem b h = record { id = omega (arith, h.id); time = time_in b.time h.time; price = h.double }

-- ---- a hold

pub yield_in : (y : Yield) → YieldOk y → YieldIn y
yield_in Absent h = tt
yield_in (Bp x) h = h.1

pub lots_in_lem : (n : ℕ) → lots_ok n ≡ true → LotsIn n
lots_in_lem n h =
    let both = (and-eq-true_iff (leb 1 n) (leb n lots_limit)).0 h in
    (omega (arith, leb-true 1 n both.0), omega (arith, leb-true n lots_limit both.1))

held_in : (p : Pos) (n : ℕ) → LotsFor p n → HeldIn p n
held_in Short n h = lots_in_lem n h
held_in Flat n h = h
held_in Long n h = lots_in_lem n h

pub hold_in_lem : (o : Hold) → HoldOk o → HoldIn o
hold_in_lem o h =
    record { time = time_in o.time h.time; price = h.double; n1b = yield_in o.n1b h.n1b; lots = held_in o.pos o.lots h.lots }

-- ---- a record, the head: of a sheet of at most 32 events

description_in : (s : Sheet) (d : Description) → length s.events ≤ 32 → Named s d → DescriptionIn d
description_in s (Event i) few h = omega arith
description_in s Stop few h = tt
description_in s Timeout few h = tt

pub record_in : (s : Sheet) (r : Record) → length s.events ≤ 32 → RecordOk s r → RecordIn r
record_in s r few h = record { bar = bar_in_lem r.bar h.bar; description = description_in s r.description few h.named; lots = lots_in_lem r.lots h.lots }

open_in : (end : Time) (o : Option Time) → OpenOk end o → OpenIn o
open_in end None h = tt
open_in end (Some t) h = time_in t h.0

reference_in_lem : (s : Sheet) (end : Time) (r : Option LastEvent) → length s.events ≤ 32 → ReferenceOk s end r → ReferenceIn r
reference_in_lem s end None few h = tt
reference_in_lem s end (Some r) few h = record { bar = bar_in_lem r.bar h.bar; event = omega (arith, h.event) }

pub head_in : (s : Sheet) (h : Head) → length s.events ≤ 32 → HeadOk s h → HeadIn h
head_in s h few k =
    record {
      end = time_in h.end k.end;
      long = open_in h.end h.long k.long;
      short = open_in h.end h.short k.short;
      reference = reference_in_lem s h.end h.reference few k.reference;
    }
