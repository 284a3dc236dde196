-- The parts of a header, as they are written. Assumes nothing.
use Rattle.std.specs.Prelude.{ℕ, ◌+◌, ◌*◌, false, List, [], ◌∷◌, ◌++◌, pos, Option, None, Some}
use Rattle.std.specs.Float.{fin}
use Rattle.le.specs.Field.{put32, put_i32, put_i64, put_f64}
use Rattle.bar.specs.declared.Time.{Time}
use Rattle.position.specs.State.{no_time, pos_code}
use Rattle.position.specs.declared.LastEvent.{LastEvent}
use Rattle.position.specs.declared.Head.{Head}
use Rattle.book.specs.Layout.{time_bytes, flag, open_flag, reference_flag, reference_operate}

-- "u32 holds H, records R, C, 96, 96+32C, length"
abbrev pub counts_bytes : ℕ → ℕ → ℕ → List ℕ
counts_bytes c hs rs = put32 hs ++ put32 rs ++ put32 c ++ put32 96 ++ put32 (96 + 32 * c) ++ put32 (96 + 64 * c)

-- "bytes 24..31 pos (0 Short, 1 Flat, 2 Long), changed, long open present, short open present, reference present, its operate, 0, 0"
abbrev pub flags_bytes : Head → List ℕ
flags_bytes h =
    pos_code h.pos ∷ flag h.changed ∷ open_flag h.long ∷ open_flag h.short ∷ reference_flag h.reference ∷ reference_operate h.reference ∷ 0 ∷ 0 ∷ []

-- "32 i64 end; i32 40 its offset, 44 long open's offset; i64 48 long open, 56 short open; i32 64 its offset"
abbrev pub times_bytes : Time → Time → Time → List ℕ
times_bytes end long short = time_bytes end ++ put_i32 long.offset ++ put_i64 long.instant.0 ++ time_bytes short

-- "68 reference id; i64 72 reference; i32 80 its offset; u32 84 event index; 88 price"
abbrev pub last_bytes : LastEvent → List ℕ
last_bytes r = put32 r.bar.id ++ time_bytes r.bar.time ++ put32 r.event ++ put_f64 r.bar.price

-- the event of a reference; "Absent is zero"
abbrev pub last_of : Option LastEvent → LastEvent
last_of None = record { bar = record { id = 0; time = no_time; price = fin false 0 (pos 0) }; operate = 0; event = 0 }
last_of (Some r) = r
