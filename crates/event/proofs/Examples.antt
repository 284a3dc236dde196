-- Worked examples of a bar's signals and of matching, computed from the definitions. Assumes nothing.
use Prim.Native.Nat.{ℕ, zero, suc}
use mathlib.Core.Bool.{Bool, true, false}
use mathlib.Core.List.{List, [], ◌∷◌, ◌++◌}
use Rattle.std.specs.Prelude.{None, Some}
use mathlib.Core.Path.{◌≡◌, refl}
use lib.ListN.{length}
use Rattle.text.specs.Answer.{Refused, Got, ◌>>=◌}
use Rattle.text.specs.Literal.{bytes}
use Rattle.text.specs.Number.{decimal_of}
use Rattle.operate.specs.Operate.{LO}
use Rattle.signal.specs.Signal.{Signal}
use Rattle.sheet.specs.Sheet.{All, Any, Not, Clause, Event}
use Rattle.event.specs.Signals.{Line, read_signals}
use Rattle.event.specs.Match.{holds, matches, first_match}
use Rattle.event.proofs.Opened.{opened}

-- ---- a bar's signals

-- no lines; empty keys and values; a missing LF, a field too few, a field too many
read : (read_signals [] ≡ Got []) × (read_signals (bytes "|\n") ≡ Got (record { key = []; value = [] } ∷ []))
    × (read_signals (bytes "a|b") ≡ Refused 2) × (read_signals (bytes "a\n") ≡ Refused 2) × (read_signals (bytes "a|b|c\n") ≡ Refused 2)
unfolding opened
read = (refl, refl, refl, refl, refl)

-- n lines with keys n - 1 down to 0
unfoldable many : ℕ → List ℕ
many zero = []
many (suc n) = decimal_of n ++ bytes "|v\n" ++ many n

-- a key twice (12) before the count (7); 256 lines, and 257
counted : (read_signals (bytes "a|b\na|c\n") ≡ Refused 12) × ((read_signals (many 256) >>= λ ls. Got (length ls)) ≡ Got 256)
    × (read_signals (many 257) ≡ Refused 7) × (read_signals (many 256 ++ bytes "7|v\n") ≡ Refused 12)
unfolding opened many
counted = (refl, refl, refl, refl)

-- ---- a clause

abbrev clause : Signal
clause = record { key = bytes "k"; v1 = bytes "a"; v2 = bytes "任意"; v3 = []; score = 5 }

abbrev line : List ℕ → List Line
line value = record { key = bytes "k"; value = value } ∷ []

-- a clause with no wild value: the score equal, with a sign, below, and -1
abbrev strict : Signal
strict = record { key = bytes "k"; v1 = bytes "a"; v2 = bytes "x"; v3 = []; score = 5 }

scores : (holds (line (bytes "a_x__5")) strict ≡ true) × (holds (line (bytes "a_x__+5")) strict ≡ true) × (holds (line (bytes "a_x__4")) strict ≡ false)
    × (holds (line (bytes "a_x__-1")) strict ≡ false)
unfolding opened
scores = (refl, refl, refl, refl)

-- a clause of 1,000: bars of 999, 1,000 and 1,001
abbrev high : Signal
high = record { key = bytes "k"; v1 = bytes "a"; v2 = bytes "x"; v3 = []; score = 1_000 }

thousandths : (holds (line (bytes "a_x__999")) high ≡ false) × (holds (line (bytes "a_x__1000")) high ≡ true) × (holds (line (bytes "a_x__1001")) high ≡ true)
unfolding opened
thousandths = (refl, refl, refl)

-- a wild value against another and against an empty one; a value that differs; no value of the bar is wild
values : (holds (line (bytes "a_x__6")) clause ≡ true) × (holds (line (bytes "a___6")) clause ≡ true) × (holds (line (bytes "a_x_y_6")) clause ≡ false)
    × (holds (line (bytes "任意_x__6")) clause ≡ false)
unfolding opened
values = (refl, refl, refl, refl)

-- absent: no line, another key, three parts, five parts, no number
absent : (holds [] clause ≡ false) × (holds (record { key = bytes "K"; value = bytes "a_x__5" } ∷ []) clause ≡ false)
    × (holds (line (bytes "a_x_5")) clause ≡ false) × (holds (line (bytes "a_x__5_5")) clause ≡ false) × (holds (line (bytes "a_x__")) clause ≡ false)
unfolding opened
absent = (refl, refl, refl, refl, refl)

-- ---- an event

abbrev event : Bool → List Clause → Event
event exit cs = record { exit = exit; operate = LO; name = []; lots = 1; clauses = cs }

-- an N that does not hold, an N that holds; an A that does not; a Y that does not, beside none and beside one that does
abbrev other : Signal
other = record { key = bytes "j"; v1 = bytes "a"; v2 = bytes "任意"; v3 = []; score = 5 }

event_matches : (matches (line (bytes "a_x__5")) (event false (record { kind = Not; signal = other } ∷ [])) ≡ true)
    × (matches (line (bytes "a_x__5")) (event false (record { kind = Not; signal = clause } ∷ [])) ≡ false)
    × (matches (line (bytes "a_x__5")) (event false (record { kind = All; signal = clause } ∷ record { kind = All; signal = other } ∷ [])) ≡ false)
    × (matches (line (bytes "a_x__5")) (event false (record { kind = Any; signal = other } ∷ [])) ≡ false)
    × (matches (line (bytes "a_x__5")) (event false (record { kind = Any; signal = other } ∷ record { kind = Any; signal = clause } ∷ [])) ≡ true)
unfolding opened
event_matches = (refl, refl, refl, refl, refl)

-- openings come first, wherever they stand; none where none matches
first : (first_match (event true [] ∷ event false [] ∷ []) [] ≡ Some 1) × (first_match (event true [] ∷ event false (record { kind = All; signal = clause } ∷ []) ∷ []) [] ≡ Some 0)
    × (first_match (event false [] ∷ event false [] ∷ []) [] ≡ Some 0) × (first_match (event false (record { kind = All; signal = clause } ∷ []) ∷ []) [] ≡ None)
unfolding opened
first = (refl, refl, refl, refl)
