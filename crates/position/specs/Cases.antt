-- The starred cases *1 to *11 as one table. A row is a run: the lines of the run program's input, the lines that it prints, and the operates
-- of the records that the machine then has; or a double and what it rounds to (*10). Assumes nothing.
use Rattle.std.specs.Prelude.{ℕ, List, [], ◌∷◌, map, ◌≡◌, Float}
use Prim.Native.String.{String}
use Rattle.std.specs.Float.Ieee.{neg}
use Rattle.text.specs.Answer.{Answer, Refused, Got}
use Rattle.text.specs.Literal.{bytes}
use Rattle.double.specs.Double.{whole, ◌÷◌, round_away}
use Rattle.operate.specs.Operate.{LO, LE}
use Rattle.sheet.specs.Sheet.{Sheet}
use Rattle.position.specs.State.{State, fresh_state}
use Rattle.position.specs.Feed.{Input, feed_state}
use Rattle.position.specs.Run.{run_bars, ended, Asked, read_input, next_state, run_do}

unfoldable pub lines : List String → List ℕ
lines ss = ended (map bytes ss)

pub record Case : Type 0 where
  pub input : List String
  pub output : List String
  pub operates : List ℕ

pub data CaseRow : Type 0 where
  Runs : Case → CaseRow
  Rounds : Float → Float → CaseRow

-- ---- the operates of the records after a run

unfoldable pub state_after : Sheet → State → List Input → State
state_after s st [] = st
state_after s st (i ∷ is) = state_after s (next_state st (feed_state s run_bars i st)) is

abbrev pub operates_of : Answer Asked → List ℕ
operates_of (Refused n) = []
operates_of (Got a) = map (λ r. r.operate) (state_after a.sheet fresh_state a.inputs).records

-- the definitions give the run's output and records, or the rounded double
abbrev pub RowRight : CaseRow → Type 0
RowRight (Runs c) = (run_do (lines c.input) ≡ lines c.output) × (operates_of (read_input (lines c.input)) ≡ c.operates)
RowRight (Rounds x y) = round_away x ≡ y

-- every row of a table
abbrev pub Right : List CaseRow → Type 0
Right [] = Unit {0}
Right (r ∷ rs) = RowRight r × Right rs

-- ---- case *1, letter by letter

abbrev pub case_1 : Case
case_1 =
    record {
      input =
          "P|soy|M1|0|5|100|0"
          ∷ "O|LO|go"
          ∷ "A|d1_u_w_up_任意_任意_10"
          ∷ "X|LE|out"
          ∷ "A|d1_u_w_down_任意_任意_0"
          ∷ "-"
          ∷ "B|1|0|0|4059000000000000"
          ∷ "S|d1_u_w|up_a_b_10"
          ∷ "B|2|86400000000|0|405f400000000000"
          ∷ "S|d1_u_w|down_a_b_5"
          ∷ [];
      output =
          "F|0|1|1"
          ∷ "F|0|0|1"
          ∷ "R|M1|soy|L|0|86400000000|4059000000000000|405f400000000000|1|go@is_match -> out@is_match|3ff0000000000000|40a3880000000000|1"
          ∷ "H|0|1|4059000000000000|40a3880000000000"
          ∷ "H|86400000000|0|405f400000000000|-"
          ∷ [];
      operates = LO ∷ LE ∷ [];
    }

-- the same sheet with other settings; its signals; and a sheet whose second signal opens short
abbrev pub soy : String → List String → List String
soy position bars =
    position ∷ "O|LO|go" ∷ "A|d1_u_w_up_任意_任意_10" ∷ "X|LE|out" ∷ "A|d1_u_w_down_任意_任意_0" ∷ "-" ∷ bars

abbrev pub up : String
up = "S|d1_u_w|up_a_b_10"

abbrev pub down : String
down = "S|d1_u_w|down_a_b_5"

abbrev pub both : String → List String → List String
both position bars =
    position ∷ "O|LO|go" ∷ "A|d1_u_w_up_任意_任意_10" ∷ "O|SO|turn" ∷ "A|d1_u_w_down_任意_任意_0" ∷ "-" ∷ bars

-- ---- the starred cases

-- *2 score 9 in bar 1, no match
abbrev pub case_2 : Case
case_2 =
    record {
      input =
          soy "P|soy|M1|0|5|100|0"
          ("B|1|0|0|4059000000000000" ∷ "S|d1_u_w|up_a_b_9" ∷ "B|2|86400000000|0|405f400000000000" ∷ down ∷ []);
      output = "F|0|0|0" ∷ "F|0|0|0" ∷ "H|0|0|4059000000000000|40a3880000000000" ∷ "H|86400000000|0|405f400000000000|-" ∷ [];
      operates = [];
    }

-- *3 bar 2 at 86399999999: stays Long
abbrev pub case_3 : Case
case_3 =
    record {
      input = soy "P|soy|M1|0|5|100|0" ("B|1|0|0|4059000000000000" ∷ up ∷ "B|2|86399999999|0|405f400000000000" ∷ down ∷ []);
      output = "F|0|1|1" ∷ "F|0|1|0" ∷ "H|0|1|4059000000000000|40a3880000000000" ∷ "H|86399999999|1|405f400000000000|-" ∷ [];
      operates = LO ∷ [];
    }

-- *4 t0 1, an LO, an LE, an LO; interval 10, 10.9 s: no reopening
abbrev pub case_4 : Case
case_4 =
    record {
      input =
          soy "P|soy|M1|10|5|100|1"
          ("B|1|0|0|4059000000000000" ∷ up ∷ "B|2|5450000|0|4059000000000000" ∷ down ∷ "B|3|10900000|0|4059000000000000" ∷ up ∷ []);
      output =
          "F|0|1|1" ∷ "F|0|0|1" ∷ "F|0|0|0"
          ∷ "R|M1|soy|L|0|5450000|4059000000000000|4059000000000000|1|go@is_match -> out@is_match|3f0e573ac901e574|0000000000000000|1"
          ∷ "H|0|1|4059000000000000|0000000000000000" ∷ "H|5450000|0|4059000000000000|0000000000000000" ∷ "H|10900000|0|4059000000000000|-"
          ∷ [];
      operates = LO ∷ LE ∷ [];
    }

-- *5 11 s: yes
abbrev pub case_5 : Case
case_5 =
    record {
      input =
          soy "P|soy|M1|10|5|100|1"
          ("B|1|0|0|4059000000000000" ∷ up ∷ "B|2|5500000|0|4059000000000000" ∷ down ∷ "B|3|11000000|0|4059000000000000" ∷ up ∷ []);
      output =
          "F|0|1|1" ∷ "F|0|0|1" ∷ "F|0|1|1"
          ∷ "R|M1|soy|L|0|5500000|4059000000000000|4059000000000000|1|go@is_match -> out@is_match|3f0e573ac901e574|0000000000000000|1"
          ∷ "H|0|1|4059000000000000|0000000000000000" ∷ "H|5500000|0|4059000000000000|0000000000000000" ∷ "H|11000000|1|4059000000000000|-"
          ∷ [];
      operates = LO ∷ LE ∷ LO ∷ [];
    }

-- *6 interval 0, 0.5 s: no
abbrev pub case_6 : Case
case_6 =
    record {
      input =
          soy "P|soy|M1|0|5|100|1"
          ("B|1|0|0|4059000000000000" ∷ up ∷ "B|2|250000|0|4059000000000000" ∷ down ∷ "B|3|500000|0|4059000000000000" ∷ up ∷ []);
      output =
          "F|0|1|1" ∷ "F|0|0|1" ∷ "F|0|0|0"
          ∷ "R|M1|soy|L|0|250000|4059000000000000|4059000000000000|1|go@is_match -> out@is_match|0000000000000000|0000000000000000|1"
          ∷ "H|0|1|4059000000000000|0000000000000000" ∷ "H|250000|0|4059000000000000|0000000000000000" ∷ "H|500000|0|4059000000000000|-"
          ∷ [];
      operates = LO ∷ LE ∷ [];
    }

-- *7 t0 1, equal prices, no second match: id gap 5 against timeout 5 stays
abbrev pub case_7 : Case
case_7 =
    record {
      input = soy "P|soy|M1|0|5|100|1" ("B|1|0|0|4059000000000000" ∷ up ∷ "B|6|1000000|0|4059000000000000" ∷ []);
      output = "F|0|1|1" ∷ "F|0|1|0" ∷ "H|0|1|4059000000000000|0000000000000000" ∷ "H|1000000|1|4059000000000000|-" ∷ [];
      operates = LO ∷ [];
    }

-- *8 gap 6 closes
abbrev pub case_8 : Case
case_8 =
    record {
      input = soy "P|soy|M1|0|5|100|1" ("B|1|0|0|4059000000000000" ∷ up ∷ "B|7|1000000|0|4059000000000000" ∷ []);
      output =
          "F|0|1|1" ∷ "F|0|0|1"
          ∷ "R|M1|soy|L|0|1000000|4059000000000000|4059000000000000|6|go@is_match -> 平多@5K超时|3ee845c8a0ce5129|0000000000000000|1"
          ∷ "H|0|1|4059000000000000|0000000000000000" ∷ "H|1000000|0|4059000000000000|-" ∷ [];
      operates = LO ∷ LE ∷ [];
    }

-- *9 equal instants, other offset: 13
abbrev pub case_9 : Case
case_9 =
    record {
      input = soy "P|soy|M1|0|5|100|0" ("B|1|5000000|0|4059000000000000" ∷ up ∷ "B|2|5000000|3600|405f400000000000" ∷ down ∷ []);
      output = "F|0|1|1" ∷ "F|13|1|1" ∷ "H|5000000|1|4059000000000000|-" ∷ [];
      operates = LO ∷ [];
    }

-- *10 in a pair: 128 to 129 is 7812.5 hundredths, which round to 7813
abbrev pub case_10_gain : Case
case_10_gain =
    record {
      input = soy "P|soy|M1|0|5|1000000|1" ("B|1|0|0|4060000000000000" ∷ up ∷ "B|2|1000000|0|4060200000000000" ∷ down ∷ []);
      output =
          "F|0|1|1" ∷ "F|0|0|1"
          ∷ "R|M1|soy|L|0|1000000|4060000000000000|4060200000000000|1|go@is_match -> out@is_match|3ee845c8a0ce5129|40538851eb851eb8|1"
          ∷ "H|0|1|4060000000000000|4053880000000000" ∷ "H|1000000|0|4060200000000000|-" ∷ [];
      operates = LO ∷ LE ∷ [];
    }

-- *10 in a pair: 128 to 127, to -7813
abbrev pub case_10_loss : Case
case_10_loss =
    record {
      input = soy "P|soy|M1|0|5|1000000|1" ("B|1|0|0|4060000000000000" ∷ up ∷ "B|2|1000000|0|405fc00000000000" ∷ down ∷ []);
      output =
          "F|0|1|1" ∷ "F|0|0|1"
          ∷ "R|M1|soy|L|0|1000000|4060000000000000|405fc00000000000|1|go@is_match -> out@is_match|3ee845c8a0ce5129|c0538851eb851eb8|1"
          ∷ "H|0|1|4060000000000000|c053880000000000" ∷ "H|1000000|0|405fc00000000000|-" ∷ [];
      operates = LO ∷ LE ∷ [];
    }

-- *11 no clauses: matches
abbrev pub case_11 : Case
case_11 =
    record {
      input = "P|n|s|0|5|100|0" ∷ "O|LO|a" ∷ "-" ∷ "B|1|0|0|4059000000000000" ∷ [];
      output = "F|0|1|1" ∷ "H|0|1|4059000000000000|-" ∷ [];
      operates = LO ∷ [];
    }

-- ---- the table

unfoldable pub cases : List CaseRow
cases =
    Runs case_1
    ∷ Runs case_2
    ∷ Runs case_3
    ∷ Runs case_4
    ∷ Runs case_5
    ∷ Runs case_6
    ∷ Runs case_7
    ∷ Runs case_8
    ∷ Runs case_9
    -- *10 2.5 rounds to 3, -2.5 to -3; then two pairs whose yields it decides
    ∷ Rounds (whole 5 ÷ whole 2) (whole 3)
    ∷ Rounds (neg (whole 5 ÷ whole 2)) (neg (whole 3))
    ∷ Runs case_10_gain
    ∷ Runs case_10_loss
    ∷ Runs case_11
    ∷ []
