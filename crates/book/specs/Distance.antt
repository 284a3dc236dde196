-- How far the yield that a feed stores may lie from the exact one (double/specs/Distance). Assumes nothing.
use Rattle.std.specs.Prelude.{ℕ, ◌-◌, ◌<◌, List, ◌≡◌}
use Rattle.le.specs.Le.{part}
use Rattle.le.specs.Field.{u32}
use Rattle.text.specs.Answer.{Got}
use Rattle.double.specs.Distance.{Moved, Within}
use Rattle.position.specs.Feed.{Input, Accepted}
use Rattle.position.specs.declared.Hold.{Hold}
use Rattle.book.specs.Layout.{hold_of, hold_place}
use Rattle.book.specs.Calls.{feed_do}

-- hold number n in the bytes of a book
abbrev pub hold_in : List ℕ → ℕ → Hold
hold_in b n = hold_of (part b (hold_place n) 32)

-- the number of the last hold
abbrev pub last : List ℕ → ℕ
last b = u32 b 0 - 1

-- "the yield that a feed stores lies within 1/2^38 basis point of the exact (new/old - 1) × 10000": for any table, any book that has a hold, any
-- arguments, where the feed is accepted. old is the price in the last hold, new is the bar's, and the yield stands in the book at exit.
abbrev pub Stored38 : Type 0
Stored38 = (table b : List ℕ) (i : Input) (a : Accepted (List ℕ)) → feed_do table b i ≡ Got a → 0 < u32 b 0
    → Moved (hold_in b (last b)).price i.price
    → Within 38 (hold_in b (last b)).price i.price (hold_in a.after (last b)).n1b
