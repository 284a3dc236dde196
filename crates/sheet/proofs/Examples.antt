-- Worked examples of sheets, computed from the definitions: what is read, and the order of refusals. Assumes nothing.
use Prim.Native.Nat.{ℕ, zero, suc}
use mathlib.Core.Bool.{true, false}
use mathlib.Core.List.{List, [], ◌∷◌, ◌++◌, map}
use mathlib.Core.Path.{◌≡◌, refl}
use lib.ListN.{replicate}
use Rattle.text.specs.Answer.{Answer, Refused, Got, ◌>>=◌}
use Rattle.text.specs.Literal.{bytes}
use Rattle.operate.specs.Operate.{LO, LE}
use Rattle.sheet.specs.Sheet.{All, Any, Not, Sheet, clause_count}
use Rattle.sheet.specs.Read.{read_sheet}
use Rattle.sheet.specs.Places.{sheet_at}
use Rattle.sheet.proofs.Opened.{opened}

-- a first line, and what follows it
abbrev after : List ℕ → Answer Sheet
after l = read_sheet (bytes "P|n|s|0|0|0|0\n" ++ l)

-- n times the text
unfoldable times : ℕ → List ℕ → List ℕ
times zero l = []
times (suc n) l = l ++ times n l

-- ---- what is read

-- the clauses stay in the order of their lines, each with its kind
in_order : after (bytes "O|开多|a\nN|a_b_c_1_2_3_4\nA|a_b_c_5_任意_7_8\nY|任意_b_c_1_2_3_4\nX|LE|b\n")
    ≡ Got (record {
      name = bytes "n";
      symbol = bytes "s";
      interval = 0;
      timeout = 0;
      stop = 0;
      t0 = false;
      evening = 0;
      events =
          record {
            exit = false;
            operate = LO;
            name = bytes "a";
            lots = 1;
            clauses =
                record { kind = Not; signal = record { key = bytes "a_b_c"; v1 = bytes "1"; v2 = bytes "2"; v3 = bytes "3"; score = 4 } }
                ∷ record { kind = All; signal = record { key = bytes "a_b_c"; v1 = bytes "5"; v2 = bytes "任意"; v3 = bytes "7"; score = 8 } }
                ∷ record { kind = Any; signal = record { key = bytes "b_c"; v1 = bytes "1"; v2 = bytes "2"; v3 = bytes "3"; score = 4 } }
                ∷ [];
          }
          ∷ record { exit = true; operate = LE; name = bytes "b"; lots = 1; clauses = [] }
          ∷ [];
    })
unfolding opened
in_order = refl

-- the numbers that the code keeps of a sheet mean that sheet
kept : List ℕ
kept = bytes "P|n|s|7|6|5|1\nO|LO|a\nY|a_b_c_1_2_3_4\n"

numbers : Got (sheet_at kept (0 ∷ 3 ∷ 19 ∷ 1 ∷ 0 ∷ 1 ∷ []) (1 ∷ 23 ∷ 1 ∷ 3 ∷ 5 ∷ 7 ∷ 9 ∷ 11 ∷ 4 ∷ []) (record { name = 3; symbol = 5; interval = 7; timeout = 6; stop = 500; t0 = 1; evening = 0; events = 1; clauses = 1 })) ≡ read_sheet kept
unfolding opened kept
numbers = refl

-- and so do those of an event with lots
many : List ℕ
many = bytes "P|n|s|7|6|5|1\nO|LO|a|5\nX|LE|b\n"

lots_numbers : Got (sheet_at many (8 ∷ 3 ∷ 19 ∷ 1 ∷ 0 ∷ 0 ∷ 1 ∷ 4 ∷ 28 ∷ 1 ∷ 0 ∷ 0 ∷ []) [] (record { name = 3; symbol = 5; interval = 7; timeout = 6; stop = 500; t0 = 1; evening = 0; events = 2; clauses = 0 })) ≡ read_sheet many
unfolding opened many
lots_numbers = refl

-- every limit, with zeros in front; empty names
at_limits : read_sheet (bytes "P|||4102444800|2147483647|0001000000.00|01|0000001439\n")
    ≡ Got (record { name = []; symbol = []; interval = 4_102_444_800; timeout = 2_147_483_647; stop = 100_000_000; t0 = true; evening = 1439; events = [] })
unfolding opened
at_limits = refl

-- ---- the first line

-- nothing at all, no LF, another tag, a field too few, two fields too many
first_2 : (read_sheet [] ≡ Refused 2) × (read_sheet (bytes "P|n|s|0|0|0|0") ≡ Refused 2) × (read_sheet (bytes "O|LO|a\n") ≡ Refused 2)
    × (read_sheet (bytes "P|n|s|0|0|0\n") ≡ Refused 2) × (read_sheet (bytes "P|n|s|0|0|0|0|0|0\n") ≡ Refused 2)
unfolding opened
first_2 = (refl, refl, refl, refl, refl)

-- past each limit; no digit; a sign; eleven digits
first_3 : (read_sheet (bytes "P|n|s|4102444801|0|0|0\n") ≡ Refused 3) × (read_sheet (bytes "P|n|s|0|2147483648|0|0\n") ≡ Refused 3)
    × (read_sheet (bytes "P|n|s|0|0|1000000.01|0\n") ≡ Refused 3) × (read_sheet (bytes "P|n|s|0|0|0|2\n") ≡ Refused 3)
    × (read_sheet (bytes "P|n|s||0|0|0\n") ≡ Refused 3) × (read_sheet (bytes "P|n|s|+1|0|0|0\n") ≡ Refused 3)
    × (read_sheet (bytes "P|n|s|00000000000|0|0|0\n") ≡ Refused 3)
unfolding opened
first_3 = (refl, refl, refl, refl, refl, refl, refl)

-- the seventh value: 0 and none are the same; past its limit, none behind a `|`, a sign; judged behind t0
seventh : (read_sheet (bytes "P|n|s|0|0|0|0|0\n") ≡ after []) × ((read_sheet (bytes "P|n|s|0|0|0|0|180\n") >>= λ s. Got s.evening) ≡ Got 180)
    × (read_sheet (bytes "P|n|s|0|0|0|0|1440\n") ≡ Refused 3) × (read_sheet (bytes "P|n|s|0|0|0|0|\n") ≡ Refused 3)
    × (read_sheet (bytes "P|n|s|0|0|0|0|-1\n") ≡ Refused 3) × (read_sheet (bytes "P|n|s|0|0|0|2|180\n") ≡ Refused 3)
unfolding opened
seventh = (refl, refl, refl, refl, refl, refl)

-- ---- later lines

-- a second P, an empty line, an O after an X, a clause before any event, a field too few
later_2 : (after (bytes "P|n|s|0|0|0|0\n") ≡ Refused 2) × (after (bytes "\n") ≡ Refused 2) × (after (bytes "X|LE|a\nO|LO|b\n") ≡ Refused 2)
    × (after (bytes "A|a_b_c_1_2_3_4\n") ≡ Refused 2) × (after (bytes "O|LO\n") ≡ Refused 2)
unfolding opened
later_2 = (refl, refl, refl, refl, refl)

-- the lots of the events: said, not said, with zeros in front, at the limit, an exit's
abbrev lots_of_all : Answer Sheet → Answer (List ℕ)
lots_of_all x = x >>= λ s. Got (map (λ e. e.lots) s.events)

lots : lots_of_all (after (bytes "O|LO|a|5\nO|LO|b\nO|LE|c|0005\nO|SO|d|1000\nX|LE|e\n")) ≡ Got (5 ∷ 1 ∷ 5 ∷ 1_000 ∷ 1 ∷ [])
unfolding opened
lots = refl

-- no number: a letter, nothing, a sign, a point, eleven digits
lots_3 : (after (bytes "O|LO|a|x\n") ≡ Refused 3) × (after (bytes "O|LO|a|\n") ≡ Refused 3) × (after (bytes "O|LO|a|-1\n") ≡ Refused 3)
    × (after (bytes "O|LO|a|1.5\n") ≡ Refused 3) × (after (bytes "O|LO|a|00000000001\n") ≡ Refused 3)
unfolding opened
lots_3 = (refl, refl, refl, refl, refl)

-- outside 1 to 1,000; an X line has no fourth field, an O line no fifth
lots_18 : (after (bytes "O|LO|a|0\n") ≡ Refused 18) × (after (bytes "O|LO|a|1001\n") ≡ Refused 18) × (after (bytes "O|LO|a|9999999999\n") ≡ Refused 18)
    × (after (bytes "X|LE|a|1\n") ≡ Refused 2) × (after (bytes "O|LO|a|1|1\n") ≡ Refused 2)
unfolding opened
lots_18 = (refl, refl, refl, refl, refl)

-- the scores of each event's clauses, up to 1,000
abbrev scores_of_all : Answer Sheet → Answer (List (List ℕ))
scores_of_all x = x >>= λ s. Got (map (λ e. map (λ c. c.signal.score) e.clauses) s.events)

scores : scores_of_all (after (bytes "O|LO|a\nA|a_b_c_1_2_3_0\nY|a_b_c_1_2_3_101\nX|LE|b\nN|a_b_c_1_2_3_1000\n")) ≡ Got ((0 ∷ 101 ∷ []) ∷ (1_000 ∷ []) ∷ [])
unfolding opened
scores = refl

-- an operate, a signal's parts, its score
later_456 : (after (bytes "O|lo|a\n") ≡ Refused 4) × (after (bytes "O|LO|a\nA|a_b\n") ≡ Refused 5) × (after (bytes "O|LO|a\nY|a_b_c_1_2_3_1001\n") ≡ Refused 6)
unfolding opened
later_456 = (refl, refl, refl)

-- ---- two faults: the earlier check decides

-- in one line: place before signal (2 before 5), operate before name (4 before 7), name before number (7 before 3), parts before score
-- (5 before 6); a missing LF counts at its line, so the line before it decides
two_faults : (after (bytes "A|a_b\n") ≡ Refused 2) × (after (bytes "O|ZZ|" ++ replicate 257 97 ++ bytes "\n") ≡ Refused 4)
    × (read_sheet (bytes "P|" ++ replicate 257 97 ++ bytes "|s|x|0|0|0\n") ≡ Refused 7) × (after (bytes "O|LO|a\nA|a_b_1001\n") ≡ Refused 5)
    × (after (bytes "O|ZZ|a\nO|LO|a") ≡ Refused 4) × (after (bytes "O|LO|a\nO|ZZ|a") ≡ Refused 2)
unfolding opened
two_faults = (refl, refl, refl, refl, refl, refl)

-- name before lots (7 before 18), operate before them too, lots before the count (18 and 3 before 7)
lots_faults : (after (bytes "O|LO|" ++ replicate 257 97 ++ bytes "|0\n") ≡ Refused 7) × (after (bytes "O|ZZ|a|0\n") ≡ Refused 4)
    × (after (times 32 (bytes "O|LO|a\n") ++ bytes "O|LO|a|0\n") ≡ Refused 18) × (after (times 32 (bytes "O|LO|a\n") ++ bytes "O|LO|a|x\n") ≡ Refused 3)
unfolding opened times
lots_faults = (refl, refl, refl, refl)

-- text length before UTF-8, UTF-8 before the first line
whole-text : (read_sheet (replicate 16385 255) ≡ Refused 7) × (read_sheet (replicate 16384 255) ≡ Refused 1) × (read_sheet (255 ∷ []) ≡ Refused 1)
unfolding opened
whole-text = (refl, refl, refl)

-- ---- counts

-- 256 bytes of a name, and 257
names : (after (bytes "O|LO|" ++ replicate 257 97 ++ bytes "\n") ≡ Refused 7)
    × ((read_sheet (bytes "P|" ++ replicate 256 97 ++ bytes "||0|0|0|0\n") >>= λ s. Got s.name) ≡ Got (replicate 256 97))
unfolding opened
names = (refl, refl)

-- 32 events, and 33; the fields of the 33rd are read first
events : ((after (times 32 (bytes "O|LO|a\n")) >>= λ s. Got (clause_count s.events)) ≡ Got 0)
    × (after (times 33 (bytes "O|LO|a\n")) ≡ Refused 7) × (after (times 32 (bytes "O|LO|a\n") ++ bytes "O|ZZ|a\n") ≡ Refused 4)
unfolding opened times
events = (refl, refl, refl)

-- 256 clauses, and 257
clauses : ((after (bytes "X|LE|a\n" ++ times 256 (bytes "A|______0\n")) >>= λ s. Got (clause_count s.events)) ≡ Got 256)
    × (after (bytes "X|LE|a\n" ++ times 257 (bytes "A|______0\n")) ≡ Refused 7)
unfolding opened times
clauses = (refl, refl)
