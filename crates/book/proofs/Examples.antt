-- Worked examples of a book's bytes and of its header check, computed from the definitions. Assumes nothing.
use Rattle.std.specs.Prelude.{None, Some}
use Prim.Native.Nat.{ℕ}
use mathlib.Core.Bool.{true, false}
use mathlib.Core.List.{List, [], ◌∷◌}
use mathlib.Core.Path.{◌≡◌, refl}
use lib.IntN.{ℤ, pos, negsuc}
use lib.Ieee.{binary64, of_bits}
use lib.ListN.{replicate}
use Rattle.double.specs.declared.Yield.TheVariants.{Absent, Bp}
use Rattle.le.specs.Le.{part, patch}
use Rattle.operate.specs.Operate.{LO, LE}
use Rattle.bar.specs.declared.Time.{Time}
use Rattle.position.specs.declared.Pos.TheVariants.{Flat, Long}
use Rattle.position.specs.declared.Head.{Head}
use Rattle.position.specs.declared.Description.TheVariants.{Event, Stop}
use Rattle.position.specs.declared.Hold.{Hold}
use Rattle.book.specs.Layout.{head_bytes, hold_bytes, record_bytes, record_of, encode, fresh_book}
use Rattle.book.specs.Check.{record_ok, header_ok}
use Rattle.book.specs.Calls.{open_lots_in}
use Rattle.book.proofs.Opened.{opened}

abbrev at : ℤ → ℤ → Time
at instant offset = record { instant = record { 0 = instant }; offset = offset }

-- ---- a fresh book

-- H, R, C, 96, 96 + 32C, length; Flat; all else zero
fresh-header : part (fresh_book 1) 0 96
    ≡ 0 ∷ 0 ∷ 0 ∷ 0 ∷ 0 ∷ 0 ∷ 0 ∷ 0 ∷ 1 ∷ 0 ∷ 0 ∷ 0 ∷ 96 ∷ 0 ∷ 0 ∷ 0 ∷ 128 ∷ 0 ∷ 0 ∷ 0 ∷ 160 ∷ 0 ∷ 0 ∷ 0
    ∷ 1 ∷ 0 ∷ 0 ∷ 0 ∷ 0 ∷ 0 ∷ 0 ∷ 0
    ∷ 0 ∷ 0 ∷ 0 ∷ 0 ∷ 0 ∷ 0 ∷ 0 ∷ 0 ∷ 0 ∷ 0 ∷ 0 ∷ 0 ∷ 0 ∷ 0 ∷ 0 ∷ 0
    ∷ 0 ∷ 0 ∷ 0 ∷ 0 ∷ 0 ∷ 0 ∷ 0 ∷ 0 ∷ 0 ∷ 0 ∷ 0 ∷ 0 ∷ 0 ∷ 0 ∷ 0 ∷ 0
    ∷ 0 ∷ 0 ∷ 0 ∷ 0 ∷ 0 ∷ 0 ∷ 0 ∷ 0 ∷ 0 ∷ 0 ∷ 0 ∷ 0 ∷ 0 ∷ 0 ∷ 0 ∷ 0
    ∷ 0 ∷ 0 ∷ 0 ∷ 0 ∷ 0 ∷ 0 ∷ 0 ∷ 0 ∷ 0 ∷ 0 ∷ 0 ∷ 0 ∷ 0 ∷ 0 ∷ 0 ∷ 0
    ∷ []
unfolding opened
fresh-header = refl

fresh-slots : part (fresh_book 1) 96 65 ≡ replicate 64 0
unfolding opened
fresh-slots = refl

fresh_passes : header_ok 1 (fresh_book 1) ≡ true
unfolding opened
fresh_passes = refl

-- one byte of it changed: R above H, another C, another pos
fresh_damaged : (header_ok 1 (patch (fresh_book 1) 4 (1 ∷ [])) ≡ false)
    × (header_ok 1 (patch (fresh_book 1) 8 (2 ∷ [])) ≡ false)
    × (header_ok 1 (patch (fresh_book 1) 24 (2 ∷ [])) ≡ false)
unfolding opened
fresh_damaged = (refl, refl, refl)

-- ---- a hold, a record, a header with every field

-- the last instant, five hours west, Long with 515 lots, at 101.5 with a yield of -250 basis points
hold_bytes_lem : hold_bytes (record { time = at (pos 4_102_444_799_999_999) (negsuc 17_999); pos = Long; price = of_bits binary64 0x4059600000000000; n1b = Bp (of_bits binary64 0xc06f400000000000); lots = 515 })
    ≡ 255 ∷ 191 ∷ 3 ∷ 221 ∷ 38 ∷ 147 ∷ 14 ∷ 0
    ∷ 176 ∷ 185 ∷ 255 ∷ 255
    ∷ 2 ∷ 1 ∷ 3 ∷ 2
    ∷ 0 ∷ 0 ∷ 0 ∷ 0 ∷ 0 ∷ 96 ∷ 89 ∷ 64
    ∷ 0 ∷ 0 ∷ 0 ∷ 0 ∷ 0 ∷ 64 ∷ 111 ∷ 192
    ∷ []
unfolding opened
hold_bytes_lem = refl

-- the first instant, the least offset, the last id, at 99.75, LE, Flat, by event 258, of 772 lots
record_bytes_lem : record_bytes (record { bar = record { id = 2_147_483_647; time = at (pos 0) (negsuc 86_398); price = of_bits binary64 0x4058f00000000000 }; operate = LE; pos = Flat; description = Event 258; lots = 772 })
    ≡ 0 ∷ 0 ∷ 0 ∷ 0 ∷ 0 ∷ 0 ∷ 0 ∷ 0
    ∷ 129 ∷ 174 ∷ 254 ∷ 255
    ∷ 255 ∷ 255 ∷ 255 ∷ 127
    ∷ 0 ∷ 0 ∷ 0 ∷ 0 ∷ 0 ∷ 240 ∷ 88 ∷ 64
    ∷ 4 ∷ 1 ∷ 1 ∷ 0
    ∷ 2 ∷ 1 ∷ 4 ∷ 3
    ∷ []
unfolding opened
record_bytes_lem = refl

-- a stop has no event index
stop-bytes : part (record_bytes (record { bar = record { id = 1; time = at (pos 0) (pos 0); price = of_bits binary64 0 }; operate = LE; pos = Flat; description = Stop; lots = 1 })) 24 8
    ≡ 4 ∷ 1 ∷ 2 ∷ 0 ∷ 0 ∷ 0 ∷ 1 ∷ 0 ∷ []
unfolding opened
stop-bytes = refl

-- a bar, Long since its LO, with both opens and the reference
end : Time
end = at (pos 1_000_000) (negsuc 17_999)

head : Head
head =
    record {
      pos = Long;
      changed = true;
      end = end;
      long = Some (at (pos 770) (pos 3_600));
      short = Some (at (pos 1_284) (negsuc 0));
      reference = Some (record { bar = record { id = 9; time = at (pos 1_798) (pos 28_800); price = of_bits binary64 0x4059600000000000 }; operate = LO; event = 31 });
    }

head_bytes_lem : head_bytes 2 1 1 head
    ≡ 1 ∷ 0 ∷ 0 ∷ 0 ∷ 1 ∷ 0 ∷ 0 ∷ 0 ∷ 2 ∷ 0 ∷ 0 ∷ 0 ∷ 96 ∷ 0 ∷ 0 ∷ 0 ∷ 160 ∷ 0 ∷ 0 ∷ 0 ∷ 224 ∷ 0 ∷ 0 ∷ 0
    ∷ 2 ∷ 1 ∷ 1 ∷ 1 ∷ 1 ∷ 3 ∷ 0 ∷ 0
    ∷ 64 ∷ 66 ∷ 15 ∷ 0 ∷ 0 ∷ 0 ∷ 0 ∷ 0
    ∷ 176 ∷ 185 ∷ 255 ∷ 255
    ∷ 16 ∷ 14 ∷ 0 ∷ 0
    ∷ 2 ∷ 3 ∷ 0 ∷ 0 ∷ 0 ∷ 0 ∷ 0 ∷ 0
    ∷ 4 ∷ 5 ∷ 0 ∷ 0 ∷ 0 ∷ 0 ∷ 0 ∷ 0
    ∷ 255 ∷ 255 ∷ 255 ∷ 255
    ∷ 9 ∷ 0 ∷ 0 ∷ 0
    ∷ 6 ∷ 7 ∷ 0 ∷ 0 ∷ 0 ∷ 0 ∷ 0 ∷ 0
    ∷ 128 ∷ 112 ∷ 0 ∷ 0
    ∷ 31 ∷ 0 ∷ 0 ∷ 0
    ∷ 0 ∷ 0 ∷ 0 ∷ 0 ∷ 0 ∷ 96 ∷ 89 ∷ 64
    ∷ []
unfolding opened head end
head_bytes_lem = refl

-- ---- a book of one bar

last : Hold
last = record { time = end; pos = Long; price = of_bits binary64 0x4059600000000000; n1b = Absent; lots = 5 }

used : List ℕ
used = encode 2 (record { head = head; records = []; holds = last ∷ [] })

used_passes : header_ok 2 used ≡ true
unfolding opened used head last end
used_passes = refl

-- another end than the last hold's, an open after end, a yield that is there, a pos of 3
used_damaged : (header_ok 2 (patch used 32 (65 ∷ [])) ≡ false)
    × (header_ok 2 (patch used 50 (16 ∷ [])) ≡ false)
    × (header_ok 2 (patch used 109 (1 ∷ [])) ≡ false)
    × (header_ok 2 (patch used 24 (3 ∷ [])) ≡ false)
unfolding opened used head last end
used_damaged = (refl, refl, refl, refl)

-- ---- lots

-- those of the last hold; 0 is read as 1, as in a book from before them; 1,000 pass and 1,001 do not
open_lots_lem : (open_lots_in used ≡ 5) × (open_lots_in (patch used 110 (0 ∷ 0 ∷ [])) ≡ 1) × (header_ok 2 (patch used 110 (0 ∷ 0 ∷ [])) ≡ true)
    × (header_ok 2 (patch used 110 (232 ∷ 3 ∷ [])) ≡ true) × (header_ok 2 (patch used 110 (233 ∷ 3 ∷ [])) ≡ false)
unfolding opened used head last end
open_lots_lem = (refl, refl, refl, refl, refl)

-- Flat has none: 0 passes, 5 do not
flat : List ℕ
flat = patch (patch used 24 (1 ∷ [])) 108 (1 ∷ [])

flat_lots : (header_ok 2 (patch flat 110 (0 ∷ 0 ∷ [])) ≡ true) × (header_ok 2 flat ≡ false) × (open_lots_in (patch flat 110 (0 ∷ 0 ∷ [])) ≡ 0)
unfolding opened used head last end flat
flat_lots = (refl, refl, refl)

-- a record's: 0 is read as 1; 1,000 pass and 1,001 do not; no event but those of the table, by two bytes
closed : List ℕ
closed = record_bytes (record { bar = record { id = 1; time = end; price = of_bits binary64 0 }; operate = LE; pos = Flat; description = Event 3; lots = 1_000 })

record_lots_lem : ((record_of closed).lots ≡ 1_000) × ((record_of (patch closed 30 (0 ∷ 0 ∷ []))).lots ≡ 1) × (record_ok 4 closed ≡ true)
    × (record_ok 4 (patch closed 30 (0 ∷ 0 ∷ [])) ≡ true) × (record_ok 4 (patch closed 30 (233 ∷ 3 ∷ [])) ≡ false) × (record_ok 4 (patch closed 29 (1 ∷ [])) ≡ false)
unfolding opened closed end
record_lots_lem = (refl, refl, refl, refl, refl, refl)
