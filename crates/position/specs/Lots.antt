-- Cases of lots: runs, as the starred ones, with the lots of the records and of the holds that the machine then has. Assumes nothing.
use Rattle.std.specs.Prelude.{ℕ, List, [], ◌∷◌, map, ◌≡◌}
use Prim.Native.String.{String}
use Rattle.text.specs.Answer.{Answer, Refused, Got}
use Rattle.operate.specs.Operate.{LO, LE, SO, SE}
use Rattle.position.specs.State.{State, fresh_state}
use Rattle.position.specs.Run.{Asked, read_input}
use Rattle.position.specs.Cases.{Case, Runs, RowRight, lines, state_after}

pub record LotsCase : Type 0 where
  pub run : Case
  pub records : List ℕ
  pub holds : List ℕ

abbrev pub record_lots : State → List ℕ
record_lots st = map (λ r. r.lots) st.records

abbrev pub hold_lots : State → List ℕ
hold_lots st = map (λ o. o.lots) st.holds

abbrev pub state_of : Answer Asked → State
state_of (Refused n) = fresh_state
state_of (Got a) = state_after a.sheet fresh_state a.inputs

-- the run is right, and the lots of its records and holds are
abbrev pub LotsRight : LotsCase → Type 0
LotsRight c =
    let st = state_of (read_input (lines c.run.input)) in
    RowRight (Runs c.run) × (record_lots st ≡ c.records) × (hold_lots st ≡ c.holds)

abbrev pub AllLots : List LotsCase → Type 0
AllLots [] = Unit {0}
AllLots (c ∷ cs) = LotsRight c × AllLots cs

-- two events open long, with 5 and with 7, one short with 3; one that closes says 9
abbrev pub hedge : String → List String → List String
hedge position bars =
    position ∷ "O|LO|go|5" ∷ "A|d1_u_w_up_任意_任意_0" ∷ "O|LO|more|7" ∷ "A|d1_u_w_more_任意_任意_0" ∷ "O|SO|turn|3" ∷ "A|d1_u_w_down_任意_任意_0"
    ∷ "O|LE|early|9" ∷ "A|d1_u_w_early_任意_任意_0" ∷ "X|LE|out" ∷ "A|d1_u_w_out_任意_任意_0" ∷ "-" ∷ bars

-- "A closing record carries the closed lots": 5, not the 9 of the event that closes
abbrev pub closed : LotsCase
closed =
    record {
      run =
          record {
            input = hedge "P|soy|M1|0|9|100|1" ("B|1|0|0|4059000000000000" ∷ "S|d1_u_w|up_a_b_5" ∷ "B|2|1000000|0|4059000000000000" ∷ "S|d1_u_w|early_a_b_5" ∷ []);
            output =
                "F|0|1|1" ∷ "F|0|0|1"
                ∷ "R|M1|soy|L|0|1000000|4059000000000000|4059000000000000|1|go@is_match -> early@is_match|3ee845c8a0ce5129|0000000000000000|5"
                ∷ "H|0|1|4059000000000000|0000000000000000" ∷ "H|1000000|0|4059000000000000|-" ∷ [];
            operates = LO ∷ LE ∷ [];
          };
      records = 5 ∷ 5 ∷ [];
      holds = 5 ∷ 0 ∷ [];
    }

-- "Lots are fixed when a position opens": a second LO moves the reference (a timeout of 2 bars is not past at 5) and no lots
abbrev pub second : LotsCase
second =
    record {
      run =
          record {
            input =
                hedge "P|soy|M1|0|2|100|1"
                ("B|1|0|0|4059000000000000" ∷ "S|d1_u_w|up_a_b_5" ∷ "B|3|1000000|0|4059000000000000" ∷ "S|d1_u_w|more_a_b_5"
                ∷ "B|5|2000000|0|4059000000000000" ∷ "B|6|3000000|0|4059000000000000" ∷ "S|d1_u_w|out_a_b_5" ∷ []);
            output =
                "F|0|1|1" ∷ "F|0|1|0" ∷ "F|0|1|0" ∷ "F|0|0|1"
                ∷ "R|M1|soy|L|0|3000000|4059000000000000|4059000000000000|5|go@is_match -> out@is_match|3f023456789abcdf|0000000000000000|5"
                ∷ "H|0|1|4059000000000000|0000000000000000" ∷ "H|1000000|1|4059000000000000|0000000000000000"
                ∷ "H|2000000|1|4059000000000000|0000000000000000" ∷ "H|3000000|0|4059000000000000|-" ∷ [];
            operates = LO ∷ LE ∷ [];
          };
      records = 5 ∷ 5 ∷ [];
      holds = 5 ∷ 5 ∷ 5 ∷ 0 ∷ [];
    }

-- "an opening or reversing one the new lots": one record with 3; the timeout closes them
abbrev pub reversed : LotsCase
reversed =
    record {
      run =
          record {
            input =
                hedge "P|soy|M1|0|0|100|1"
                ("B|1|0|0|4059000000000000" ∷ "S|d1_u_w|up_a_b_5" ∷ "B|2|1000000|0|4059000000000000" ∷ "S|d1_u_w|down_a_b_5" ∷ "B|3|2000000|0|4059000000000000" ∷ []);
            output =
                "F|0|1|1" ∷ "F|0|-1|1" ∷ "F|0|0|1"
                ∷ "R|M1|soy|L|0|1000000|4059000000000000|4059000000000000|1|go@is_match -> turn@is_match|3ee845c8a0ce5129|0000000000000000|5"
                ∷ "R|M1|soy|S|1000000|2000000|4059000000000000|4059000000000000|1|turn@is_match -> 平空@0K超时|3ee845c8a0ce5129|0000000000000000|3"
                ∷ "H|0|1|4059000000000000|0000000000000000" ∷ "H|1000000|-1|4059000000000000|0000000000000000" ∷ "H|2000000|0|4059000000000000|-" ∷ [];
            operates = LO ∷ SO ∷ SE ∷ [];
          };
      records = 5 ∷ 3 ∷ 3 ∷ [];
      holds = 5 ∷ 3 ∷ 0 ∷ [];
    }

-- an opening of 3 that the interval forbids closes the 7 of the other side
abbrev pub forbidden : LotsCase
forbidden =
    record {
      run =
          record {
            input =
                hedge "P|soy|M1|10|9|100|1"
                ("B|1|0|0|4059000000000000" ∷ "S|d1_u_w|down_a_b_5" ∷ "B|2|1000000|0|4059000000000000" ∷ "S|d1_u_w|more_a_b_5"
                ∷ "B|3|2000000|0|4059000000000000" ∷ "S|d1_u_w|down_a_b_5" ∷ []);
            output =
                "F|0|-1|1" ∷ "F|0|1|1" ∷ "F|0|0|1"
                ∷ "R|M1|soy|S|0|1000000|4059000000000000|4059000000000000|1|turn@is_match -> more@is_match|3ee845c8a0ce5129|0000000000000000|3"
                ∷ "R|M1|soy|L|1000000|2000000|4059000000000000|4059000000000000|1|more@is_match -> turn@is_match|3ee845c8a0ce5129|0000000000000000|7"
                ∷ "H|0|-1|4059000000000000|0000000000000000" ∷ "H|1000000|1|4059000000000000|0000000000000000" ∷ "H|2000000|0|4059000000000000|-" ∷ [];
            operates = SO ∷ LO ∷ LE ∷ [];
          };
      records = 3 ∷ 7 ∷ 7 ∷ [];
      holds = 3 ∷ 7 ∷ 0 ∷ [];
    }

-- the stop closes 5; the next opening has its own 7
abbrev pub stopped : LotsCase
stopped =
    record {
      run =
          record {
            input =
                hedge "P|soy|M1|0|9|100|1"
                ("B|1|0|0|4059000000000000" ∷ "S|d1_u_w|up_a_b_5" ∷ "B|2|1000000|0|4049000000000000" ∷ "B|3|2000000|0|4049000000000000"
                ∷ "S|d1_u_w|more_a_b_5" ∷ []);
            output =
                "F|0|1|1" ∷ "F|0|0|1" ∷ "F|0|1|1"
                ∷ "R|M1|soy|L|0|1000000|4059000000000000|4049000000000000|1|go@is_match -> 平多@100BP止损|3ee845c8a0ce5129|c0b3880000000000|5"
                ∷ "H|0|1|4059000000000000|c0b3880000000000" ∷ "H|1000000|0|4049000000000000|0000000000000000" ∷ "H|2000000|1|4049000000000000|-" ∷ [];
            operates = LO ∷ LE ∷ LO ∷ [];
          };
      records = 5 ∷ 5 ∷ 7 ∷ [];
      holds = 5 ∷ 0 ∷ 7 ∷ [];
    }

-- "an X event always has 1": one that opens
abbrev pub exit-opens : LotsCase
exit-opens =
    record {
      run =
          record {
            input = "P|soy|M1|0|9|100|1" ∷ "O|LE|out|1000" ∷ "A|d1_u_w_out_任意_任意_0" ∷ "X|LO|go" ∷ "-" ∷ "B|1|0|0|4059000000000000" ∷ [];
            output = "F|0|1|1" ∷ "H|0|1|4059000000000000|-" ∷ [];
            operates = LO ∷ [];
          };
      records = 1 ∷ [];
      holds = 1 ∷ [];
    }

-- "18 when lots lie outside 1 to 1,000"
abbrev pub refused : LotsCase
refused =
    record {
      run = record { input = "P|soy|M1|0|9|100|1" ∷ "O|LO|go|1001" ∷ "-" ∷ []; output = "E|18" ∷ []; operates = [] };
      records = [];
      holds = [];
    }

-- ---- the table

unfoldable pub lots_cases : List LotsCase
lots_cases = closed ∷ second ∷ reversed ∷ forbidden ∷ stopped ∷ exit-opens ∷ refused ∷ []
