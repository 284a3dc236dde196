-- Case *1's table, byte by byte: it means case *1's sheet; and what breaks each condition on a table. Assumes nothing.
use Prim.Native.Nat.{ℕ}
use mathlib.Core.Bool.{true, false}
use mathlib.Core.List.{List, [], ◌∷◌, ◌++◌, map}
use mathlib.Core.Path.{◌≡◌, refl}
use lib.ListN.{get_or, drop, replicate}
use Rattle.le.specs.Le.{patch}
use Rattle.le.specs.Field.{put16, put32}
use Rattle.text.specs.Answer.{Answer, Refused, Got, ◌>>=◌}
use Rattle.text.specs.Literal.{bytes}
use Rattle.operate.specs.Operate.{LO, LE}
use Rattle.sheet.specs.Sheet.{All, Sheet}
use Rattle.sheet.specs.Read.{read_sheet}
use Rattle.table.specs.Table.{read_table}
use Rattle.table.proofs.Opened.{opened}

-- ---- case *1

unfoldable pub soy : List ℕ
soy =
    -- the layout number
    (2 ∷ 0 ∷ 0 ∷ 255 ∷ [])
    -- interval, timeout, stop, t0, the evening's minutes
    ++ (0 ∷ 0 ∷ 0 ∷ 0 ∷ 5 ∷ 0 ∷ 0 ∷ 0 ∷ 16 ∷ 39 ∷ 0 ∷ 0 ∷ 0 ∷ 0 ∷ 0 ∷ 0 ∷ [])
    -- how many events, clauses, keys, values; the lengths of name and symbol
    ++ (2 ∷ 0 ∷ 0 ∷ 0 ∷ 2 ∷ 0 ∷ 0 ∷ 0 ∷ 1 ∷ 0 ∷ 0 ∷ 0 ∷ 2 ∷ 0 ∷ 0 ∷ 0 ∷ 3 ∷ 0 ∷ 0 ∷ 0 ∷ 2 ∷ 0 ∷ 0 ∷ 0 ∷ [])
    -- where events, clauses, keys, values, texts, event names, key texts and value texts start; the end
    ++ (80 ∷ 0 ∷ 0 ∷ 0 ∷ 104 ∷ 0 ∷ 0 ∷ 0 ∷ 128 ∷ 0 ∷ 0 ∷ 0 ∷ 136 ∷ 0 ∷ 0 ∷ 0 ∷ 152 ∷ 0 ∷ 0 ∷ 0 ∷ 157 ∷ 0 ∷ 0 ∷ 0 ∷ 162 ∷ 0 ∷ 0 ∷ 0 ∷ 168 ∷ 0 ∷ 0 ∷ 0 ∷ 174 ∷ 0 ∷ 0 ∷ 0 ∷ [])
    -- two events: kind, operate, name at, length, first clause, clauses
    ++ (0 ∷ 0 ∷ 3 ∷ 0 ∷ 0 ∷ 0 ∷ 2 ∷ 0 ∷ 0 ∷ 0 ∷ 1 ∷ 0 ∷ [])
    ++ (1 ∷ 0 ∷ 4 ∷ 0 ∷ 2 ∷ 0 ∷ 3 ∷ 0 ∷ 1 ∷ 0 ∷ 1 ∷ 0 ∷ [])
    -- two clauses: kind, key, three values, score
    ++ (0 ∷ 0 ∷ 0 ∷ 0 ∷ 1 ∷ 0 ∷ 255 ∷ 255 ∷ 255 ∷ 255 ∷ 10 ∷ 0 ∷ [])
    ++ (0 ∷ 0 ∷ 0 ∷ 0 ∷ 2 ∷ 0 ∷ 255 ∷ 255 ∷ 255 ∷ 255 ∷ 0 ∷ 0 ∷ [])
    -- one key, two values: text at, length, rank, order
    ++ (0 ∷ 0 ∷ 6 ∷ 0 ∷ 0 ∷ 0 ∷ 0 ∷ 0 ∷ [])
    ++ (0 ∷ 0 ∷ 2 ∷ 0 ∷ 1 ∷ 0 ∷ 1 ∷ 0 ∷ [])
    ++ (2 ∷ 0 ∷ 4 ∷ 0 ∷ 0 ∷ 0 ∷ 0 ∷ 0 ∷ [])
    ++ bytes "soyM1gooutd1_u_wupdown"
    ++ replicate 32594 0

unfoldable pub meant : Sheet
meant =
    record {
      name = bytes "soy";
      symbol = bytes "M1";
      interval = 0;
      timeout = 5;
      stop = 10_000;
      t0 = false;
      evening = 0;
      events =
          record {
            exit = false;
            operate = LO;
            name = bytes "go";
            lots = 1;
            clauses = record { kind = All; signal = record { key = bytes "d1_u_w"; v1 = bytes "up"; v2 = bytes "任意"; v3 = bytes "任意"; score = 10 } } ∷ [];
          }
          ∷ record {
            exit = true;
            operate = LE;
            name = bytes "out";
            lots = 1;
            clauses = record { kind = All; signal = record { key = bytes "d1_u_w"; v1 = bytes "down"; v2 = bytes "任意"; v3 = bytes "任意"; score = 0 } } ∷ [];
          }
          ∷ [];
    }

-- the text and the table mean the same
text_means : read_sheet (bytes "P|soy|M1|0|5|100|0\nO|LO|go\nA|d1_u_w_up_任意_任意_10\nX|LE|out\nA|d1_u_w_down_任意_任意_0\n") ≡ Got meant
unfolding opened meant
text_means = refl

table_means : read_table soy ≡ Got meant
unfolding opened soy meant
table_means = refl

-- what stands behind the used bytes is not looked at
tail_free : read_table (patch soy 174 (1 ∷ [])) ≡ Got meant
unfolding opened soy meant
tail_free = refl

-- ---- what breaks a condition

abbrev changed : ℕ → List ℕ → Answer Sheet
changed at new = read_table (patch soy at new)

-- t0 and the evening stand side by side
settings : ((changed 18 (put16 1439) >>= λ s. Got s.evening) ≡ Got 1439) × ((changed 18 (put16 1439) >>= λ s. Got s.t0) ≡ Got false)
    × ((changed 16 (put16 1) >>= λ s. Got s.evening) ≡ Got 0) × ((changed 16 (put16 1) >>= λ s. Got s.t0) ≡ Got true)
unfolding opened soy
settings = (refl, refl, refl, refl)

-- another layout number; settings past their limits; counts and places that do not fit; a byte too few
header : (changed 0 (put32 0xff00_0003) ≡ Refused 9) × (changed 4 (put32 4102444801) ≡ Refused 9) × (changed 8 (put32 2147483648) ≡ Refused 9) × (changed 12 (put32 100_000_001) ≡ Refused 9)
    × (changed 16 (put16 2) ≡ Refused 9) × (changed 18 (put16 1440) ≡ Refused 9) × (changed 20 (put32 1) ≡ Refused 9) × (changed 64 (put32 158) ≡ Refused 9) × (read_table (drop 1 soy) ≡ Refused 9)
unfolding opened soy
header = (refl, refl, refl, refl, refl, refl, refl, refl, refl)

-- the lots stand above an event's kind: 5, 1,000; past their limit; an exit with two
abbrev first_lots : Answer Sheet → Answer ℕ
first_lots x = x >>= λ s. Got (get_or (map (λ e. e.lots) s.events) 0 0)

lots : (first_lots (changed 80 (put16 8)) ≡ Got 5) × (first_lots (changed 80 (put16 1_998)) ≡ Got 1_000)
    × (changed 80 (put16 2_000) ≡ Refused 9) × (changed 80 (put16 3) ≡ Refused 9) × (changed 80 (put16 65_534) ≡ Refused 9)
unfolding opened soy
lots = (refl, refl, refl, refl, refl)

-- an event's operate, name, clauses
events : (changed 82 (put16 7) ≡ Refused 9) × (changed 86 (put16 3) ≡ Refused 9) × (changed 102 (put16 2) ≡ Refused 9)
unfolding opened soy
events = (refl, refl, refl)

-- a clause's kind, key, value codes 0 and 3, score
clauses : (changed 104 (put16 3) ≡ Refused 9) × (changed 106 (put16 1) ≡ Refused 9) × (changed 108 (put16 0) ≡ Refused 9)
    × (changed 108 (put16 3) ≡ Refused 9) × (changed 114 (put16 1_001) ≡ Refused 9)
unfolding opened soy
clauses = (refl, refl, refl, refl, refl)

-- a score up to 1,000 is read as it stands
abbrev first_scores : Answer Sheet → Answer (List ℕ)
first_scores x = x >>= λ s. Got (map (λ c. c.signal.score) (get_or (map (λ e. e.clauses) s.events) 0 []))

scores : (first_scores (changed 114 (put16 101)) ≡ Got (101 ∷ [])) × (first_scores (changed 114 (put16 1_000)) ≡ Got (1_000 ∷ []))
unfolding opened soy
scores = (refl, refl)

-- values not in order of first use; a value that is not used
uses : (read_table (patch (patch soy 108 (put16 2)) 120 (put16 1)) ≡ Refused 9) × (changed 120 (put16 1) ≡ Refused 9)
unfolding opened soy
uses = (refl, refl)

-- `|`, LF and a byte that is no UTF-8 in a text; three underscores in a key, the wildcard as a key; an underscore in a value
texts : (changed 152 (124 ∷ []) ≡ Refused 9) × (changed 155 (10 ∷ []) ≡ Refused 9) × (changed 157 (255 ∷ []) ≡ Refused 9)
    × (changed 162 (bytes "a_b_c_") ≡ Refused 9) × (changed 162 (bytes "任意") ≡ Refused 9) × (changed 168 (bytes "_") ≡ Refused 9)
unfolding opened soy
texts = (refl, refl, refl, refl, refl, refl)

-- two values of three bytes, equal; the same with other texts, which are a table; a rank that is not the word's
abbrev pair : List ℕ → List ℕ
pair texts = patch (patch soy 136 (put16 0 ++ put16 3 ++ put16 1 ++ put16 1 ++ put16 3 ++ put16 3)) 168 texts

words : (read_table (pair (bytes "abcabc")) ≡ Refused 9) × ((read_table (pair (bytes "abdabc")) >>= λ s. Got s.name) ≡ Got (bytes "soy")) × (changed 140 (put16 0) ≡ Refused 9)
unfolding opened soy
words = (refl, refl, refl)
