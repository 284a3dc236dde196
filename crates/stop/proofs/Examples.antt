-- Worked examples of stops, computed from the definitions. Assumes nothing.
use Prim.Native.Nat.{ℕ}
use mathlib.Core.Path.{◌≡◌, refl}
use lib.Ieee.{binary64, to_bits}
use Rattle.text.specs.Answer.{Refused, Got}
use Rattle.text.specs.Literal.{bytes}
use Rattle.text.proofs.Opened.{opened as text-opened}
use Rattle.double.proofs.Opened.{opened as double-opened}
use Rattle.stop.specs.Stop.{hundredths_of, stop_text, stop_double}
use Rattle.stop.proofs.Opened.{opened}

-- the limit of a sheet
abbrev hi : ℕ
hi = 100_000_000

-- "Members want 12.5 or 7.25."
finer : (hundredths_of hi (bytes "12.5") ≡ Got 1250) × (hundredths_of hi (bytes "7.25") ≡ Got 725) × (hundredths_of hi (bytes "500") ≡ Got 50000)
    × (hundredths_of hi (bytes "12.05") ≡ Got 1205) × (hundredths_of hi (bytes "0000000000.01") ≡ Got 1)
unfolding opened text-opened
finer = (refl, refl, refl, refl, refl)

-- "12.50 shown as 12.5"
shown : (hundredths_of hi (bytes "12.50") ≡ Got 1250) × (stop_text 1250 ≡ bytes "12.5") × (stop_text 725 ≡ bytes "7.25") × (stop_text 1205 ≡ bytes "12.05")
    × (stop_text 50000 ≡ bytes "500") × (stop_text 0 ≡ bytes "0") × (stop_text 5 ≡ bytes "0.05")
unfolding opened text-opened
shown = (refl, refl, refl, refl, refl, refl, refl)

-- no digit on either side of the point, a third decimal, a second point, signs, nothing
malformed : (hundredths_of hi (bytes "12.") ≡ Refused 3) × (hundredths_of hi (bytes ".5") ≡ Refused 3) × (hundredths_of hi (bytes "12.500") ≡ Refused 3)
    × (hundredths_of hi (bytes "1.2.3") ≡ Refused 3) × (hundredths_of hi (bytes "+12.5") ≡ Refused 3) × (hundredths_of hi (bytes "-1") ≡ Refused 3)
    × (hundredths_of hi (bytes "1.-5") ≡ Refused 3) × (hundredths_of hi (bytes "") ≡ Refused 3) × (hundredths_of hi (bytes "00000000001") ≡ Refused 3)
unfolding opened text-opened
malformed = (refl, refl, refl, refl, refl, refl, refl, refl, refl)

-- "The upper limit is still 1,000,000"
limit : (hundredths_of hi (bytes "1000000") ≡ Got 100000000) × (hundredths_of hi (bytes "1000000.00") ≡ Got 100000000)
    × (hundredths_of hi (bytes "1000000.01") ≡ Refused 3) × (hundredths_of hi (bytes "1000000.1") ≡ Refused 3) × (hundredths_of hi (bytes "999999.99") ≡ Got 99999999)
    × (hundredths_of hi (bytes "1000001") ≡ Refused 3)
unfolding opened text-opened
limit = (refl, refl, refl, refl, refl, refl)

-- 12.5, 7.25, 500 and 0.1
doubles : (to_bits binary64 (stop_double 1250) ≡ 0x4029_0000_0000_0000) × (to_bits binary64 (stop_double 725) ≡ 0x401d_0000_0000_0000)
    × (to_bits binary64 (stop_double 50000) ≡ 0x407f_4000_0000_0000) × (to_bits binary64 (stop_double 10) ≡ 0x3fb9_9999_9999_999a)
unfolding opened double-opened
doubles = (refl, refl, refl, refl)
