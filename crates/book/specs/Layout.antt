-- The book: "Little-endian, 96 + 64C bytes, C 1..1,000,000 bars." What a state is in bytes, and what bytes are in values. Assumes nothing.
use Rattle.std.specs.Prelude.{ℕ, zero, suc, ◌+◌, ◌-◌, ◌*◌, ◌/◌, Bool, true, false, cond, ◌&&◌, leb, eqb, Float, length, replicate, Option, None, Some}
use mathlib.Core.List.{List, [], ◌∷◌, ◌++◌, map, flat_map}
use Rattle.double.specs.declared.Yield.{Yield}
use Rattle.double.specs.declared.Yield.TheVariants.{Absent, Bp}
use Rattle.le.specs.Le.{part}
use Rattle.le.specs.Field.{u8, u16, u32, i32, i64, f64, put16, put32, put_i32, put_i64, put_f64}
use Rattle.bar.specs.declared.Time.{Time}
use Rattle.position.specs.State.{State, fresh_state, no_time, pos_code}
use Rattle.position.specs.Step.{held_lots}
use Rattle.position.specs.declared.Pos.{Pos}
use Rattle.position.specs.declared.Pos.TheVariants.{Short, Flat, Long}
use Rattle.position.specs.declared.LastEvent.{LastEvent}
use Rattle.position.specs.declared.Head.{Head}
use Rattle.position.specs.declared.Description.{Description}
use Rattle.position.specs.declared.Description.TheVariants.{Event, Stop, Timeout}
use Rattle.position.specs.declared.Record.{Record}
use Rattle.position.specs.declared.Hold.{Hold}

-- "C 1..1,000,000 bars"
abbrev pub bar_limit : ℕ
bar_limit = 1_000_000

-- C of a book with this many bytes
unfoldable pub capacity : List ℕ → Option ℕ
capacity b =
    let c = (length b - 96) / 64 in
    cond (eqb (length b) (96 + 64 * c) && leb 1 c && leb c bar_limit) (Some c) None

-- ---- values in bytes: "Absent is zero; presence bytes and changed are 0 or 1."

abbrev pub flag : Bool → ℕ
flag true = 1
flag false = 0

-- "i64 instant, i32 offset"
abbrev pub time_bytes : Time → List ℕ
time_bytes t = put_i64 t.instant.0 ++ put_i32 t.offset

abbrev pub open_flag : Option Time → ℕ
open_flag None = 0
open_flag (Some t) = 1

abbrev pub open_time : Option Time → Time
open_time None = no_time
open_time (Some t) = t

abbrev pub reference_flag : Option LastEvent → ℕ
reference_flag None = 0
reference_flag (Some r) = 1

abbrev pub reference_operate : Option LastEvent → ℕ
reference_operate None = 0
reference_operate (Some r) = r.operate

-- "68 reference id; i64 72 reference; i32 80 its offset; u32 84 event index; 88 price"
abbrev pub reference_bytes : Option LastEvent → List ℕ
reference_bytes None = replicate 28 0
reference_bytes (Some r) = put32 r.bar.id ++ time_bytes r.bar.time ++ put32 r.event ++ put_f64 r.bar.price

-- "Header: u32 holds H, records R, C, 96, 96+32C, length; bytes 24..31 pos (0 Short, 1 Flat, 2 Long), changed, long open present, short
-- open present, reference present, its operate, 0, 0; 32 i64 end; i32 40 its offset, 44 long open's offset; i64 48 long open, 56 short
-- open; i32 64 its offset, 68 reference id; .."
unfoldable pub head_bytes : ℕ → ℕ → ℕ → Head → List ℕ
head_bytes c hs rs h =
    put32 hs ++ put32 rs ++ put32 c ++ put32 96 ++ put32 (96 + 32 * c) ++ put32 (96 + 64 * c)
    ++ (pos_code h.pos ∷ flag h.changed ∷ open_flag h.long ∷ open_flag h.short ∷ reference_flag h.reference ∷ reference_operate h.reference ∷ 0 ∷ 0 ∷ [])
    ++ time_bytes h.end
    ++ put_i32 (open_time h.long).offset ++ put_i64 (open_time h.long).instant.0
    ++ time_bytes (open_time h.short)
    ++ reference_bytes h.reference

abbrev pub yield_flag : Yield → ℕ
yield_flag Absent = 0
yield_flag (Bp x) = 1

abbrev pub yield_bytes : Yield → List ℕ
yield_bytes Absent = replicate 8 0
yield_bytes (Bp x) = put_f64 x

-- "A hold is 32 bytes: i64 instant, i32 offset, u8 pos, u8 yield present, .., price, yield."; "hold bytes 14 and 15 are a u16 of lots"
unfoldable pub hold_bytes : Hold → List ℕ
hold_bytes o = time_bytes o.time ++ (pos_code o.pos ∷ yield_flag o.n1b ∷ []) ++ put16 o.lots ++ put_f64 o.price ++ yield_bytes o.n1b

-- "description (1 event, 2 stop, 3 timeout)"
abbrev pub description_code : Description → ℕ
description_code (Event i) = 1
description_code Stop = 2
description_code Timeout = 3

-- "event index (0 unless 1)"
abbrev pub description_event : Description → ℕ
description_event (Event i) = i
description_event Stop = 0
description_event Timeout = 0

-- "A record is 32: i64 instant, i32 offset, i32 id, price, u8 operate, pos, description .., 0"; "a record's event index is u16 at 28 and lots u16
-- at 30"
unfoldable pub record_bytes : Record → List ℕ
record_bytes r =
    time_bytes r.bar.time ++ put32 r.bar.id ++ put_f64 r.bar.price
    ++ (r.operate ∷ pos_code r.pos ∷ description_code r.description ∷ 0 ∷ []) ++ put16 (description_event r.description) ++ put16 r.lots

unfoldable pub holds_bytes : List Hold → List ℕ
holds_bytes os = flat_map hold_bytes os

unfoldable pub records_bytes : List Record → List ℕ
records_bytes rs = flat_map record_bytes rs

-- the book of a state: C places for holds, then C places for records; "slots past H and R stay zero"
unfoldable pub encode : ℕ → State → List ℕ
encode c s =
    let hs = length s.holds in
    let rs = length s.records in
    head_bytes c hs rs s.head
    ++ holds_bytes s.holds ++ replicate (32 * (c - hs)) 0
    ++ records_bytes s.records ++ replicate (32 * (c - rs)) 0

unfoldable pub fresh_book : ℕ → List ℕ
fresh_book c = encode c fresh_state

-- ---- bytes in values

-- an instant at one place, its offset at another
abbrev pub time_at : List ℕ → ℕ → ℕ → Time
time_at b at offset = record { instant = record { 0 = i64 b at }; offset = i32 b offset }

abbrev pub pos_at : ℕ → Pos
pos_at zero = Short
pos_at (suc zero) = Flat
pos_at (suc (suc n)) = Long

abbrev pub open_at : ℕ → Time → Option Time
open_at zero t = None
open_at (suc n) t = Some t

abbrev pub reference_at : ℕ → LastEvent → Option LastEvent
reference_at zero r = None
reference_at (suc n) r = Some r

unfoldable pub head_of : List ℕ → Head
head_of b =
    record {
      pos = pos_at (u8 b 24);
      changed = eqb (u8 b 25) 1;
      end = time_at b 32 40;
      long = open_at (u8 b 26) (time_at b 48 44);
      short = open_at (u8 b 27) (time_at b 56 64);
      reference = reference_at (u8 b 28) (record { bar = record { id = u32 b 68; time = time_at b 72 80; price = f64 b 88 }; operate = u8 b 29; event = u32 b 84 });
    }

abbrev pub yield_at : ℕ → Float → Yield
yield_at zero x = Absent
yield_at (suc n) x = Bp x

-- "Lots of 0 in a record, or in a hold with a position, read as 1"
abbrev pub read_lots : ℕ → ℕ
read_lots n = cond (eqb n 0) 1 n

unfoldable pub hold_of : List ℕ → Hold
hold_of b =
    record {
      time = time_at b 0 8;
      pos = pos_at (u8 b 12);
      price = f64 b 16;
      n1b = yield_at (u8 b 13) (f64 b 24);
      lots = held_lots (pos_at (u8 b 12)) (read_lots (u16 b 14));
    }

abbrev pub description_at : ℕ → ℕ → Description
description_at zero i = Event i
description_at (suc zero) i = Event i
description_at (suc (suc zero)) i = Stop
description_at (suc (suc (suc n))) i = Timeout

unfoldable pub record_of : List ℕ → Record
record_of b =
    record {
      bar = record { id = u32 b 12; time = time_at b 0 8; price = f64 b 16 };
      operate = u8 b 24;
      pos = pos_at (u8 b 25);
      description = description_at (u8 b 26) (u16 b 28);
      lots = read_lots (u16 b 30);
    }

-- ---- places

-- hold number i, and record number i of a book of C bars
abbrev pub hold_place : ℕ → ℕ
hold_place i = 96 + 32 * i

abbrev pub record_place : ℕ → ℕ → ℕ
record_place c i = 96 + 32 * c + 32 * i

-- the n slots of 32 bytes from `at` on
unfoldable pub slots : List ℕ → ℕ → ℕ → List (List ℕ)
slots b at zero = []
slots b at (suc n) = part b at 32 ∷ slots b (at + 32) n

unfoldable pub hold_slots : List ℕ → List (List ℕ)
hold_slots b = slots b (hold_place 0) (u32 b 0)

unfoldable pub record_slots : ℕ → List ℕ → List (List ℕ)
record_slots c b = slots b (record_place c 0) (u32 b 4)

unfoldable pub holds_of : List ℕ → List Hold
holds_of b = map hold_of (hold_slots b)

unfoldable pub records_of : ℕ → List ℕ → List Record
records_of c b = map record_of (record_slots c b)
