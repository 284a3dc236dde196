-- Worked lines, by computing. Assumes nothing.
use mathlib.Core.List.{List}
use mathlib.Core.Path.{◌≡◌, refl}
use Prim.Native.Nat.{ℕ}
use lib.IntN.{pos, negsuc}
use lib.Ieee.{binary64, of_bits}
use Rattle.text.specs.Answer.{Answer, Refused, Got, number}
use Rattle.text.specs.Literal.{bytes}
use Rattle.bar_line.specs.Line.{line_of}
use Rattle.bar_line.proofs.Opened.{opened}

-- 15:00 in Beijing is 07:00 UTC; a leap day; an offset to the west; 4.903 is not 4 + 0.903
read : (line_of (bytes "7,2026-09-02 15:00:00+08:00,3120.5") ≡ Got (record { id = pos 7; instant = pos 1788332400000000; offset = pos 28800; price = of_bits binary64 0x40a8_6100_0000_0000 }))
    × (line_of (bytes "0,2000-02-29 23:59:59-23:59,4.903") ≡ Got (record { id = pos 0; instant = pos 951955139000000; offset = negsuc 86339; price = of_bits binary64 0x4013_9cac_0831_26e9 }))
unfolding opened
read = (refl, refl)

-- no real day, no real time, an offset of 24 hours, a price without digits behind its point, a CR
departs : (line_of (bytes "1,2023-02-29 00:00:00+00:00,1") ≡ Refused 16) × (line_of (bytes "1,2024-01-01 23:59:60+00:00,1") ≡ Refused 16)
    × (line_of (bytes "1,2024-01-01 00:00:00+24:00,1") ≡ Refused 16) × (line_of (bytes "1,2024-01-01 00:00:00+00:00,12.") ≡ Refused 16)
    × (line_of (bytes "1,2024-01-01 00:00:00+00:00,1\r") ≡ Refused 16)
unfolding opened
departs = (refl, refl, refl, refl, refl)

-- too many digits, in all and behind the point; of a line that departs from the form nothing else is said
long : (line_of (bytes "1,2024-01-01 00:00:00+00:00,0000000000000001") ≡ Refused 17) × (line_of (bytes "1,2024-01-01 00:00:00+00:00,1.0000000") ≡ Refused 17)
    × (line_of (bytes "1,2023-02-29 00:00:00+00:00,0000000000000001") ≡ Refused 16)
unfolding opened
long = (refl, refl, refl)
