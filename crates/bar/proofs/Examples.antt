-- Worked examples, by computation. Assumes nothing.
use mathlib.Core.Path.{◌≡◌, refl}
use lib.IntN.{pos, negsuc}
use Rattle.bar.specs.Time.{local_time, day_of, seconds_between}

-- a day ends before 86,400,000,000, and those before 1970 are rounded down
days-before : (day_of 0 (negsuc 0) ≡ negsuc 0) × (day_of 0 (negsuc 86_399_999_999) ≡ negsuc 0) × (day_of 0 (negsuc 86_400_000_000) ≡ negsuc 1)
unfolding day_of
days-before = (refl, refl, refl)

days-after : (day_of 0 (pos 0) ≡ pos 0) × (day_of 0 (pos 86_399_999_999) ≡ pos 0) × (day_of 0 (pos 86_400_000_000) ≡ pos 1)
unfolding day_of
days-after = (refl, refl, refl)

-- 180 minutes: 20:59:59.999999 is of the day, 21:00 of the next, and midnight parts no days
evenings : (day_of 180 (pos 75_599_999_999) ≡ pos 0) × (day_of 180 (pos 75_600_000_000) ≡ pos 1) × (day_of 180 (pos 86_399_999_999) ≡ pos 1) × (day_of 180 (pos 86_400_000_000) ≡ pos 1)
unfolding day_of
evenings = (refl, refl, refl, refl)

-- and so on the last evening before 1970
evenings_before : (day_of 180 (negsuc 10_800_000_000) ≡ negsuc 0) × (day_of 180 (negsuc 10_799_999_999) ≡ pos 0) × (day_of 180 (negsuc 0) ≡ pos 0)
unfolding day_of
evenings_before = (refl, refl, refl)

-- the instant 0 is on the day before 1970 in the west; 1,439 minutes are too few to change that
west : (local_time (pos 0) (negsuc 86_398) ≡ negsuc 86_398_999_999) × (day_of 0 (local_time (pos 0) (negsuc 86_398)) ≡ negsuc 0) × (day_of 1439 (local_time (pos 0) (negsuc 86_398)) ≡ negsuc 0)
unfolding local_time day_of
west = (refl, refl, refl)

-- 10.999999 s are 10 whole seconds, and 0.5 s are none
seconds_cut : (seconds_between (pos 0) (pos 10_999_999) ≡ pos 10) × (seconds_between (pos 0) (pos 500_000) ≡ pos 0)
unfolding seconds_between
seconds_cut = (refl, refl)
