-- The header check and the full check of a book of 96 + 64C bytes. Assumes nothing.
use Rattle.std.specs.Prelude.{ℕ, zero, suc, ◌+◌, ◌-◌, ◌*◌, Bool, true, false, not, cond, ◌&&◌, ◌||◌, List, [], ◌∷◌, leb, ltb, eqb, replicate}
use Rattle.std.specs.Int.Signed.{le_z, lt_z}
use Rattle.std.specs.Float.Ieee.{is_nan}
use Rattle.std.specs.Float.Ieee.Scale.{finite}
use Rattle.le.specs.Le.{part}
use Rattle.le.specs.Field.{u8, u16, u32, i64, f64}
use Rattle.text.specs.Text.{same}
use Rattle.text.specs.Conditions.{all_of, every}
use Rattle.operate.specs.Operate.{LO, SO}
use Rattle.bar.specs.Bar.{last_id, time_ok}
use Rattle.sheet.specs.Sheet.{lots_limit}
use Rattle.position.specs.State.{fresh_head, trades}
use Rattle.position.specs.Step.{held_lots}
use Rattle.book.specs.Layout.{head_bytes, time_at, pos_at, hold_place, hold_slots, record_slots}

-- "Absent is zero": n zero bytes
abbrev pub zeros : List ℕ → ℕ → ℕ → Bool
zeros b at n = same (part b at n) (replicate n 0)

-- ---- a hold, a record

-- the yield of a hold, by its presence byte: "Absent is zero", "stored yields not NaN"
abbrev pub stored_yield_ok : List ℕ → ℕ → Bool
stored_yield_ok b zero = zeros b 24 8
stored_yield_ok b (suc zero) = not (is_nan (f64 b 24))
stored_yield_ok b (suc (suc n)) = false

-- "lots above 1,000 there, or any in a Flat hold, give 10"
abbrev pub held_lots_ok : List ℕ → Bool
held_lots_ok b = leb (u16 b 14) (held_lots (pos_at (u8 b 12)) lots_limit)

-- "every hold .. in range"
unfoldable pub hold_ok : List ℕ → Bool
hold_ok b = all_of (time_ok (time_at b 0 8) ∷ leb (u8 b 12) 2 ∷ stored_yield_ok b (u8 b 13) ∷ held_lots_ok b ∷ finite (f64 b 16) ∷ [])

-- "description (1 event, 2 stop, 3 timeout)", "event index (0 unless 1)", "event indexes .. of records by event in the table", of n events
abbrev pub description_ok : ℕ → ℕ → ℕ → Bool
description_ok n code event = cond (eqb code 1) (ltb event n) ((eqb code 2 || eqb code 3) && eqb event 0)

-- "every .. record in range"
unfoldable pub record_ok : ℕ → List ℕ → Bool
record_ok n b =
    all_of
    (time_ok (time_at b 0 8)
    ∷ leb (u32 b 12) last_id
    ∷ finite (f64 b 16)
    ∷ trades (u8 b 24)
    ∷ leb (u8 b 25) 2
    ∷ description_ok n (u8 b 26) (u16 b 28)
    ∷ eqb (u8 b 27) 0
    ∷ leb (u16 b 30) lots_limit
    ∷ [])

-- ---- the header check: "all the above, R ≤ H ≤ C, field ranges, a present reference's operate LO or SO, H = 0 means fresh, stored opens
-- and reference not after end, last hold in range with the header's end, offset and pos, its yield absent"

unfoldable pub counts_ok : ℕ → List ℕ → Bool
counts_ok c b =
    all_of
    (eqb (u32 b 8) c
    ∷ eqb (u32 b 12) 96
    ∷ eqb (u32 b 16) (96 + 32 * c)
    ∷ eqb (u32 b 20) (96 + 64 * c)
    ∷ leb (u32 b 4) (u32 b 0)
    ∷ leb (u32 b 0) c
    ∷ [])

-- an open, by its presence byte: zero, or in range and "not after end"
abbrev pub open_ok : List ℕ → ℕ → ℕ → ℕ → Bool
open_ok b zero at offset = zeros b at 8 && zeros b offset 4
open_ok b (suc zero) at offset = time_ok (time_at b at offset) && le_z (i64 b at) (i64 b 32)
open_ok b (suc (suc n)) at offset = false

-- the reference, by its presence byte: zero, or in range, LO or SO, and "not after end"
abbrev pub reference_ok : List ℕ → ℕ → Bool
reference_ok b zero = eqb (u8 b 29) 0 && zeros b 68 28
reference_ok b (suc zero) =
    (eqb (u8 b 29) LO || eqb (u8 b 29) SO) && leb (u32 b 68) last_id && time_ok (time_at b 72 80) && le_z (i64 b 72) (i64 b 32) && finite (f64 b 88)
reference_ok b (suc (suc n)) = false

-- "last hold in range with the header's end, offset and pos, its yield absent": o is its slot
unfoldable pub last_ok : List ℕ → List ℕ → Bool
last_ok b o = all_of (hold_ok o ∷ same (part o 0 12) (part b 32 12) ∷ eqb (u8 o 12) (u8 b 24) ∷ eqb (u8 o 13) 0 ∷ [])

-- a header with H > 0
unfoldable pub used_ok : List ℕ → Bool
used_ok b =
    all_of
    (leb (u8 b 24) 2
    ∷ leb (u8 b 25) 1
    ∷ zeros b 30 2
    ∷ time_ok (time_at b 32 40)
    ∷ open_ok b (u8 b 26) 48 44
    ∷ open_ok b (u8 b 27) 56 64
    ∷ reference_ok b (u8 b 28)
    ∷ last_ok b (part b (hold_place (u32 b 0 - 1)) 32)
    ∷ [])

unfoldable pub header_ok : ℕ → List ℕ → Bool
header_ok c b = counts_ok c b && cond (eqb (u32 b 0) 0) (same (part b 0 96) (head_bytes c 0 0 fresh_head)) (used_ok b)

-- ---- the full check: "also every hold and record in range, records LO, LE, SO or SE, stored yields not NaN, instants strictly rising in
-- each list, event indexes of a present reference and of records by event in the table"

-- "instants strictly rising"
unfoldable pub rising : List (List ℕ) → Bool
rising [] = true
rising (a ∷ []) = true
rising (a ∷ b ∷ bs) = lt_z (i64 a 0) (i64 b 0) && rising (b ∷ bs)

-- with n events in the table
unfoldable pub full_ok : ℕ → ℕ → List ℕ → Bool
full_ok n c b =
    all_of
    (header_ok c b
    ∷ (eqb (u8 b 28) 0 || ltb (u32 b 84) n)
    ∷ every hold_ok (hold_slots b)
    ∷ rising (hold_slots b)
    ∷ every (record_ok n) (record_slots c b)
    ∷ rising (record_slots c b)
    ∷ [])
