-- "A bar is an id, an instant, an offset and a price", each in its range. Assumes nothing.
use Rattle.std.specs.Prelude.{ℕ, Bool, ◌&&◌, ℤ, pos, negsuc, nat_abs, Float}
use Rattle.std.specs.Int.Signed.{le_z}
use Rattle.std.specs.Float.Ieee.Scale.{finite}
use Rattle.text.specs.Answer.{Answer, Got, ◌>>=◌, must}
use Rattle.bar.specs.Time.{local_time, day_of}
use Rattle.bar.specs.declared.Time.{Time}
use Rattle.bar.specs.declared.LocalTime.{LocalTime}
use Rattle.bar.specs.declared.Bar.{Bar}

-- "id 0..2,147,483,647"
abbrev pub last_id : ℕ
last_id = 2_147_483_647

-- "instant in microseconds from 1970 UTC, 0..4,102,444,799,999,999"
abbrev pub last_instant : ℕ
last_instant = 4_102_444_799_999_999

abbrev pub between : ℤ → ℤ → ℤ → Bool
between lo hi z = le_z lo z && le_z z hi

abbrev pub id_ok : ℤ → Bool
id_ok id = between (pos 0) (pos last_id) id

abbrev pub instant_ok : ℤ → Bool
instant_ok instant = between (pos 0) (pos last_instant) instant

-- "offset -86,399..86,399 seconds"
abbrev pub offset_ok : ℤ → Bool
offset_ok offset = between (negsuc 86_398) (pos 86_399) offset

abbrev pub time_ok : Time → Bool
time_ok t = instant_ok t.instant.0 && offset_ok t.offset

-- the bar of four numbers: 11 where a field is outside its range; "price a finite double"
unfoldable pub bar_of : ℤ → ℤ → ℤ → Float → Answer Bar
bar_of id instant offset price = do
  _ ← must 11 (id_ok id && instant_ok instant && offset_ok offset && finite price)
  Got (record { id = nat_abs id; time = record { instant = record { 0 = instant }; offset = offset }; price = price })

-- "a local time counts from the wall clock (instant plus offset)"
abbrev pub local_of : Time → LocalTime
local_of t = record { 0 = local_time t.instant.0 t.offset }

-- the day of a time: that of its wall clock, where a day opens so many minutes before midnight
abbrev pub day_at : ℕ → Time → ℤ
day_at evening t = day_of evening (local_of t).0
