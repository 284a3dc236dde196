-- Times in microseconds. "An instant counts from UTC and a local time counts from the wall clock (instant plus offset)." Assumes nothing.
use Rattle.std.specs.Prelude.{ℕ, ◌*◌, ◌/◌, ℤ, pos, negsuc, ◌+ℤ◌, ◌-ℤ◌, ◌*ℤ◌}
use Rattle.std.specs.Int.Signed.{quot_z}

-- the local time of an instant, for an offset in seconds
unfoldable pub local_time : ℤ → ℤ → ℤ
local_time instant offset = instant +ℤ offset *ℤ pos 1_000_000

-- divided, rounded down
abbrev pub floor_div : ℤ → ℕ → ℤ
floor_div (pos n) d = pos (n / d)
floor_div (negsuc n) d = negsuc (n / d)

-- "The day is local time divided by 86,400,000,000, rounded down." "minutes, added to local time before the day is taken": those by
-- which the trading day opens before midnight
unfoldable pub day_of : ℕ → ℤ → ℤ
day_of evening local = floor_div (local +ℤ pos (evening * 60_000_000)) 86_400_000_000

-- "whole seconds between instants", the earlier first
unfoldable pub seconds_between : ℤ → ℤ → ℤ
seconds_between earlier later = quot_z (later -ℤ earlier) (pos 1_000_000)
