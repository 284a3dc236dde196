-- What is written into a book is read back: a hold, a record, the header. Assumes nothing.
use Rattle.std.specs.Prelude.{Option, None, Some, Float}
use Prim.Native.Nat.{ℕ, ◌^◌, ◌<◌}
use native.Mathlib.Omega.{arith}
use mathlib.Core.Bool.{Bool, true, false}
use mathlib.Core.List.{List, ◌++◌}
use mathlib.Core.Path.{◌≡◌, refl, sym, ap}
use lib.Dec.{eqb}
use borrow.Author.Tests.{ne_eqb}
use Rattle.double.specs.declared.Yield.{Yield}
use Rattle.double.specs.declared.Yield.TheVariants.{Absent, Bp}
use Rattle.le.specs.Le.{part, le_bytes, le_nat}
use Rattle.le.specs.Field.{u32, i32, i64, f64, put16, put32, put_i32, put_i64, put_f64}
use Rattle.le.proofs.Laws.{le_nat-le_bytes}
use Rattle.le.proofs.Fields.{integer_back, double_back}
use Rattle.bar.specs.declared.Time.{Time}
use Rattle.bar.specs.declared.Bar.{Bar}
use Rattle.position.specs.State.{pos_code}
use Rattle.position.specs.Step.{held_lots}
use Rattle.position.specs.declared.Pos.{Pos}
use Rattle.position.specs.declared.Pos.TheVariants.{Short, Flat, Long}
use Rattle.position.specs.declared.LastEvent.{LastEvent}
use Rattle.position.specs.declared.Head.{Head}
use Rattle.position.specs.declared.Description.{Description}
use Rattle.position.specs.declared.Description.TheVariants.{Event, Stop, Timeout}
use Rattle.position.specs.declared.Record.{Record}
use Rattle.position.specs.declared.Hold.{Hold}
use Rattle.book.specs.Layout.{flag, open_flag, open_time, reference_flag, reference_operate, reference_bytes, head_bytes, yield_flag, yield_bytes, hold_bytes, description_code, description_event, record_bytes, time_at, pos_at, open_at, reference_at, head_of, yield_at, read_lots, hold_of, description_at, record_of}
use Rattle.book.proofs.Fits.{TimeIn, BarIn, YieldIn, LotsIn, HeldIn, HoldIn, DescriptionIn, RecordIn, OpenIn, ReferenceIn, HeadIn}

-- ---- fields

number_is : (n : ℕ) → n < 2 ^ 32 → le_nat (put32 n) ≡ n
number_is n k = le_nat-le_bytes 4 n k

half_is : (n : ℕ) → n < 2 ^ 16 → le_nat (put16 n) ≡ n
half_is n k = le_nat-le_bytes 2 n k

-- lots that are not 0
lots-is : (n : ℕ) → LotsIn n → read_lots (le_nat (put16 n)) ≡ n
lots-is n h = rw (half_is n h.1, ne_eqb n 0 (λ e. omega (arith, h.0)))

-- a time by the bytes of its two fields
again : Time → Time
again t = record { instant = record { 0 = i64 (put_i64 t.instant.0) 0 }; offset = i32 (put_i32 t.offset) 0 }

time-is : (t : Time) → TimeIn t → again t ≡ t
unfolding again part le_bytes
time-is t h =
    λ i. record { instant = record { 0 = integer_back 8 63 t.instant.0 refl h.instant i }; offset = integer_back 4 31 t.offset refl h.offset i }

bar_again : Bar → Bar
bar_again b = record { id = le_nat (put32 b.id); time = again b.time; price = f64 (put_f64 b.price) 0 }

bar-is : (b : Bar) → BarIn b → bar_again b ≡ b
unfolding bar_again part le_bytes
bar-is b h = λ i. record { id = number_is b.id h.id i; time = time-is b.time h.time i; price = double_back b.price h.price i }

pos_is : (p : Pos) → pos_at (pos_code p) ≡ p
pos_is Short = refl
pos_is Flat = refl
pos_is Long = refl

flag_is : (t : Bool) → eqb (flag t) 1 ≡ t
flag_is true = refl
flag_is false = refl

-- ---- a hold

yield-is : (y : Yield) → YieldIn y → yield_at (yield_flag y) (f64 (yield_bytes y) 0) ≡ y
unfolding part le_bytes
yield-is Absent h = refl
yield-is (Bp x) h = ap Bp (double_back x h)

held_is : (p : Pos) (n : ℕ) → HeldIn p n → held_lots (pos_at (pos_code p)) (read_lots (le_nat (put16 n))) ≡ n
held_is Short n h = lots-is n h
held_is Flat n h = sym h
held_is Long n h = lots-is n h

pub hold_back : (o : Hold) → HoldIn o → hold_of (hold_bytes o) ≡ o
unfolding hold_of hold_bytes part le_bytes again
hold_back o h =
    λ i. record {
      time = time-is o.time h.time i;
      pos = pos_is o.pos i;
      price = double_back o.price h.price i;
      n1b = yield-is o.n1b h.n1b i;
      lots = held_is o.pos o.lots h.lots i;
    }

-- its yield alone
pub yield_back : (o : Hold) → YieldIn o.n1b → (hold_of (hold_bytes o)).n1b ≡ o.n1b
unfolding hold_of hold_bytes part le_bytes
yield_back o h = yield-is o.n1b h

-- ---- a record

description_is : (d : Description) → DescriptionIn d → description_at (description_code d) (le_nat (put16 (description_event d))) ≡ d
description_is (Event i) h = ap Event (half_is i h)
description_is Stop h = refl
description_is Timeout h = refl

pub record_back : (r : Record) → RecordIn r → record_of (record_bytes r) ≡ r
unfolding record_of record_bytes part le_bytes again bar_again
record_back r h =
    λ i. record {
      bar = bar-is r.bar h.bar i;
      operate = r.operate;
      pos = pos_is r.pos i;
      description = description_is r.description h.description i;
      lots = lots-is r.lots h.lots i;
    }

-- ---- the header

open_is : (o : Option Time) → OpenIn o → open_at (open_flag o) (again (open_time o)) ≡ o
open_is None h = refl
open_is (Some t) h = ap Some (time-is t h)

-- the reference in the bytes from 68 on, and its operate
reference_in : List ℕ → ℕ → LastEvent
reference_in l operate = record { bar = record { id = u32 l 0; time = time_at l 4 12; price = f64 l 20 }; operate = operate; event = u32 l 16 }

reference-is : (r : Option LastEvent) (rest : List ℕ) → ReferenceIn r → reference_at (reference_flag r) (reference_in (reference_bytes r ++ rest) (reference_operate r)) ≡ r
unfolding reference_in part le_bytes again bar_again
reference-is None rest h = refl
reference-is (Some r) rest h =
    λ i. Some (record { bar = bar-is r.bar h.bar i; operate = r.operate; event = number_is r.event h.event i })

pub head_back : (c hs rs : ℕ) (h : Head) (rest : List ℕ) → HeadIn h → head_of (head_bytes c hs rs h ++ rest) ≡ h
unfolding head_of head_bytes part le_bytes again reference_in
head_back c hs rs h rest v =
    λ i. record {
      pos = pos_is h.pos i;
      changed = flag_is h.changed i;
      end = time-is h.end v.end i;
      long = open_is h.long v.long i;
      short = open_is h.short v.short i;
      reference = reference-is h.reference rest v.reference i;
    }

pub holds_back : (c hs rs : ℕ) (h : Head) (rest : List ℕ) → hs < 2 ^ 32 → u32 (head_bytes c hs rs h ++ rest) 0 ≡ hs
unfolding head_bytes part le_bytes
holds_back c hs rs h rest k = number_is hs k

pub records_back : (c hs rs : ℕ) (h : Head) (rest : List ℕ) → rs < 2 ^ 32 → u32 (head_bytes c hs rs h ++ rest) 4 ≡ rs
unfolding head_bytes part le_bytes
records_back c hs rs h rest k = number_is rs k
