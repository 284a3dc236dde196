-- Further cases, where a rule is easy to misread: runs, as the starred ones. Assumes nothing.
use Rattle.std.specs.Prelude.{List, [], ◌∷◌}
use Rattle.operate.specs.Operate.{LO, LE, SO, SE}
use Rattle.position.specs.Cases.{Case, CaseRow, Runs, soy, both, up, down}

-- a gain of exactly -stop/10000 is no stop; less is
abbrev pub stop_edge : Case
stop_edge =
    record {
      input =
          soy "P|soy|M1|0|9|5000|1"
          ("B|1|0|0|4059000000000000" ∷ up ∷ "B|2|1000000|0|4049000000000000" ∷ "B|3|2000000|0|4039000000000000" ∷ []);
      output =
          "F|0|1|1" ∷ "F|0|1|0" ∷ "F|0|0|1"
          ∷ "R|M1|soy|L|0|2000000|4059000000000000|4039000000000000|2|go@is_match -> 平多@5000BP止损|3ef845c8a0ce5129|c0bd4c0000000000|1"
          ∷ "H|0|1|4059000000000000|c0b3880000000000" ∷ "H|1000000|1|4049000000000000|c0b3880000000000" ∷ "H|2000000|0|4039000000000000|-"
          ∷ [];
      operates = LO ∷ LE ∷ [];
    }

-- the same on the short side
abbrev pub stop_edge_short : Case
stop_edge_short =
    record {
      input =
          both "P|soy|M1|0|9|5000|1"
          ("B|1|0|0|4059000000000000" ∷ down ∷ "B|2|1000000|0|4062c00000000000" ∷ "B|3|2000000|0|4065e00000000000" ∷ []);
      output =
          "F|0|-1|1" ∷ "F|0|-1|0" ∷ "F|0|0|1"
          ∷ "R|M1|soy|S|0|2000000|4059000000000000|4065e00000000000|2|turn@is_match -> 平空@5000BP止损|3ef845c8a0ce5129|c0bd4c0000000000|1"
          ∷ "H|0|-1|4059000000000000|40b3880000000000" ∷ "H|1000000|-1|4062c00000000000|409a0aaaaaaaaaae" ∷ "H|2000000|0|4065e00000000000|-"
          ∷ [];
      operates = SO ∷ SE ∷ [];
    }

-- "12.50 shown as 12.5": a loss of 12 basis points is no stop, one of 13 is
abbrev pub fine-stop : Case
fine-stop =
    record {
      input =
          soy "P|soy|M1|0|9|12.50|1"
          ("B|1|0|0|4059000000000000" ∷ up ∷ "B|2|1000000|0|4058f851eb851eb8" ∷ "B|3|2000000|0|4058f7ae147ae148" ∷ []);
      output =
          "F|0|1|1" ∷ "F|0|1|0" ∷ "F|0|0|1"
          ∷ "R|M1|soy|L|0|2000000|4059000000000000|4058f7ae147ae148|2|go@is_match -> 平多@12.5BP止损|3ef845c8a0ce5129|c02a000000000000|1"
          ∷ "H|0|1|4059000000000000|c0280000000001fa" ∷ "H|1000000|1|4058f851eb851eb8|bff004ebcd8ef7d8" ∷ "H|2000000|0|4058f7ae147ae148|-"
          ∷ [];
      operates = LO ∷ LE ∷ [];
    }

-- a gain of exactly -stop/10000, rounded twice; -500002/1000000, rounded once, is above it
abbrev pub two_roundings : Case
two_roundings =
    record {
      input =
          soy "P|soy|M1|0|9|5000.02|1"
          ("B|1|0|0|3ff0000000000000" ∷ up ∷ "B|2|1000000|0|3fdffff79c842fa4" ∷ "B|3|2000000|0|3fdffff79c842fa2" ∷ []);
      output =
          "F|0|1|1" ∷ "F|0|1|0" ∷ "F|0|0|1"
          ∷ "R|M1|soy|L|0|2000000|3ff0000000000000|3fdffff79c842fa2|2|go@is_match -> 平多@5000.02BP止损|3ef845c8a0ce5129|c0b388051eb851ec|1"
          ∷ "H|0|1|3ff0000000000000|c0b388051eb851ec" ∷ "H|1000000|1|3fdffff79c842fa4|bd83880000000000" ∷ "H|2000000|0|3fdffff79c842fa2|-"
          ∷ [];
      operates = LO ∷ LE ∷ [];
    }

-- a timeout on the short side, by the id alone
abbrev pub timeout-short : Case
timeout-short =
    record {
      input =
          both "P|soy|M1|0|5|100|1"
          ("B|1|0|0|4059000000000000" ∷ down ∷ "B|6|1000000|0|4059000000000000" ∷ "B|0|2000000|0|4059000000000000"
          ∷ "B|7|3000000|0|4059000000000000" ∷ []);
      output =
          "F|0|-1|1" ∷ "F|0|-1|0" ∷ "F|0|-1|0" ∷ "F|0|0|1"
          ∷ "R|M1|soy|S|0|3000000|4059000000000000|4059000000000000|6|turn@is_match -> 平空@5K超时|3f023456789abcdf|0000000000000000|1"
          ∷ "H|0|-1|4059000000000000|0000000000000000" ∷ "H|1000000|-1|4059000000000000|0000000000000000"
          ∷ "H|2000000|-1|4059000000000000|0000000000000000" ∷ "H|3000000|0|4059000000000000|-" ∷ [];
      operates = SO ∷ SE ∷ [];
    }

-- another local day on the same day of UTC: closes
abbrev pub local_day_differs : Case
local_day_differs =
    record {
      input = soy "P|soy|M1|0|5|100|0" ("B|1|0|0|4059000000000000" ∷ up ∷ "B|2|57600000000|28800|4059000000000000" ∷ down ∷ []);
      output =
          "F|0|1|1" ∷ "F|0|0|1"
          ∷ "R|M1|soy|L|0|86400000000|4059000000000000|4059000000000000|1|go@is_match -> out@is_match|3fe5555555555555|0000000000000000|1"
          ∷ "H|0|1|4059000000000000|0000000000000000" ∷ "H|86400000000|0|4059000000000000|-" ∷ [];
      operates = LO ∷ LE ∷ [];
    }

-- the same local day on another day of UTC: stays
abbrev pub local_day_same : Case
local_day_same =
    record {
      input = soy "P|soy|M1|0|5|100|0" ("B|1|86399000000|0|4059000000000000" ∷ up ∷ "B|2|86400000000|-3600|4059000000000000" ∷ down ∷ []);
      output = "F|0|1|1" ∷ "F|0|1|0" ∷ "H|86399000000|1|4059000000000000|0000000000000000" ∷ "H|82800000000|1|4059000000000000|-" ∷ [];
      operates = LO ∷ [];
    }

-- before 1970 by the wall clock: the day before
abbrev pub before_1970 : Case
before_1970 =
    record {
      input = soy "P|soy|M1|0|5|100|0" ("B|1|0|-1|4059000000000000" ∷ up ∷ "B|2|1000000|-1|4059000000000000" ∷ down ∷ []);
      output =
          "F|0|1|1" ∷ "F|0|0|1"
          ∷ "R|M1|soy|L|-1000000|0|4059000000000000|4059000000000000|1|go@is_match -> out@is_match|3ee845c8a0ce5129|0000000000000000|1"
          ∷ "H|-1000000|1|4059000000000000|0000000000000000" ∷ "H|0|0|4059000000000000|-" ∷ [];
      operates = LO ∷ LE ∷ [];
    }

-- a reversal writes one record
abbrev pub reversal : Case
reversal =
    record {
      input = both "P|soy|M1|0|5|100|0" ("B|1|0|0|4059000000000000" ∷ up ∷ "B|2|1000000|0|405f400000000000" ∷ down ∷ []);
      output =
          "F|0|1|1" ∷ "F|0|-1|1"
          ∷ "R|M1|soy|L|0|1000000|4059000000000000|405f400000000000|1|go@is_match -> turn@is_match|3ee845c8a0ce5129|40a3880000000000|1"
          ∷ "H|0|1|4059000000000000|40a3880000000000" ∷ "H|1000000|-1|405f400000000000|-" ∷ [];
      operates = LO ∷ SO ∷ [];
    }

-- a reversal that the interval forbids closes only
abbrev pub reversal_too_soon : Case
reversal_too_soon =
    record {
      input =
          both "P|soy|M1|10|5|100|1"
          ("B|1|0|0|4059000000000000" ∷ up ∷ "B|2|1000000|0|4059000000000000" ∷ down ∷ "B|3|2000000|0|4059000000000000" ∷ up ∷ []);
      output =
          "F|0|1|1" ∷ "F|0|-1|1" ∷ "F|0|0|1"
          ∷ "R|M1|soy|L|0|1000000|4059000000000000|4059000000000000|1|go@is_match -> turn@is_match|3ee845c8a0ce5129|0000000000000000|1"
          ∷ "R|M1|soy|S|1000000|2000000|4059000000000000|4059000000000000|1|turn@is_match -> go@is_match|3ee845c8a0ce5129|0000000000000000|1"
          ∷ "H|0|1|4059000000000000|0000000000000000" ∷ "H|1000000|-1|4059000000000000|0000000000000000" ∷ "H|2000000|0|4059000000000000|-"
          ∷ [];
      operates = LO ∷ SO ∷ SE ∷ [];
    }

-- and not before another day without t0
abbrev pub reversal-same_day : Case
reversal-same_day =
    record {
      input =
          both "P|soy|M1|10|5|100|0"
          ("B|1|0|0|4059000000000000" ∷ up ∷ "B|2|1000000|0|4059000000000000" ∷ down ∷ "B|3|2000000|0|4059000000000000" ∷ up ∷ []);
      output =
          "F|0|1|1" ∷ "F|0|-1|1" ∷ "F|0|-1|0"
          ∷ "R|M1|soy|L|0|1000000|4059000000000000|4059000000000000|1|go@is_match -> turn@is_match|3ee845c8a0ce5129|0000000000000000|1"
          ∷ "H|0|1|4059000000000000|0000000000000000" ∷ "H|1000000|-1|4059000000000000|0000000000000000" ∷ "H|2000000|-1|4059000000000000|-"
          ∷ [];
      operates = LO ∷ SO ∷ [];
    }

-- refused bars: a key twice, a field outside its range, a late bar; pos and changed stay as they stand
abbrev pub refused-bars : Case
refused-bars =
    record {
      input =
          soy "P|soy|M1|0|5|100|1"
          ("B|1|0|0|4059000000000000" ∷ "S|d1_u_w|up_a_b_10" ∷ "S|d1_u_w|up_a_b_10" ∷ "B|1|1|0|4059000000000000" ∷ up
          ∷ "B|2147483648|2|0|4059000000000000" ∷ "B|2|2|86400|4059000000000000" ∷ "B|2|2|0|7ff0000000000000" ∷ "B|2|0|0|4059000000000000"
          ∷ down ∷ []);
      output = "F|12|0|0" ∷ "F|0|1|1" ∷ "F|11|1|1" ∷ "F|11|1|1" ∷ "F|11|1|1" ∷ "F|13|1|1" ∷ "H|1|1|4059000000000000|-" ∷ [];
      operates = LO ∷ [];
    }

-- keys without k1, without any, without k2, without k2 and k3
abbrev pub keys_without : Case
keys_without =
    record {
      input =
          "P|w|s|0|5|100|1" ∷ "O|LO|k23" ∷ "A|任意_u_w_up_任意_任意_0" ∷ "O|SO|none" ∷ "A|任意_任意_任意_x_任意_任意_0" ∷ "X|LE|k13" ∷ "A|d1_任意_w_y_任意_任意_0"
          ∷ "X|SE|k1" ∷ "A|d1_任意_任意_z_任意_任意_0" ∷ "-" ∷ "B|1|0|0|4059000000000000" ∷ "S|u_w|up_a_b_1" ∷ "B|2|1000000|0|4059000000000000"
          ∷ "S|d1_w|y_a_b_1" ∷ "B|3|2000000|0|4059000000000000" ∷ "S||x_a_b_1" ∷ "B|4|3000000|0|4059000000000000" ∷ "S|d1|z_a_b_0" ∷ [];
      output =
          "F|0|1|1" ∷ "F|0|0|1" ∷ "F|0|-1|1" ∷ "F|0|0|1"
          ∷ "R|s|w|L|0|1000000|4059000000000000|4059000000000000|1|k23@is_match -> k13@is_match|3ee845c8a0ce5129|0000000000000000|1"
          ∷ "R|s|w|S|2000000|3000000|4059000000000000|4059000000000000|1|none@is_match -> k1@is_match|3ee845c8a0ce5129|0000000000000000|1"
          ∷ "H|0|1|4059000000000000|0000000000000000" ∷ "H|1000000|0|4059000000000000|0000000000000000"
          ∷ "H|2000000|-1|4059000000000000|0000000000000000" ∷ "H|3000000|0|4059000000000000|-" ∷ [];
      operates = LO ∷ LE ∷ SO ∷ SE ∷ [];
    }

-- empty names, keys, values and parts
abbrev pub empty-texts : Case
empty-texts =
    record {
      input =
          "P|||0|5|100|1" ∷ "O|LO|" ∷ "A|______0" ∷ "X|LE|" ∷ "A|a______0" ∷ "-" ∷ "B|1|0|0|4059000000000000" ∷ "S|__|___0"
          ∷ "B|2|1000000|0|4059000000000000" ∷ "S|a__|___0" ∷ [];
      output =
          "F|0|1|1" ∷ "F|0|0|1"
          ∷ "R|||L|0|1000000|4059000000000000|4059000000000000|1|@is_match -> @is_match|3ee845c8a0ce5129|0000000000000000|1"
          ∷ "H|0|1|4059000000000000|0000000000000000" ∷ "H|1000000|0|4059000000000000|-" ∷ [];
      operates = LO ∷ LE ∷ [];
    }

-- an N clause that holds; a value that does not count leaves its key absent; one Y clause is enough; a score below 0
abbrev pub clauses : Case
clauses =
    record {
      input =
          "P|n|s|0|5|100|1" ∷ "O|LO|go" ∷ "Y|k_a_a_x_任意_任意_0" ∷ "N|k_c_c_x_任意_任意_0" ∷ "Y|k_b_b_x_任意_任意_0" ∷ "-" ∷ "B|1|0|0|4059000000000000"
          ∷ "S|k_b_b|x_1_1_0" ∷ "S|k_c_c|x_1_1_0" ∷ "B|2|1000000|0|4059000000000000" ∷ "S|k_c_c|x_1_1_q" ∷ "B|3|2000000|0|4059000000000000"
          ∷ "S|k_b_b|x_1_1_-1" ∷ "B|4|3000000|0|4059000000000000" ∷ "S|k_b_b|x_1_1_0" ∷ "S|k_c_c|x_1_1_q" ∷ [];
      output =
          "F|0|0|0" ∷ "F|0|0|0" ∷ "F|0|0|0" ∷ "F|0|1|1" ∷ "H|0|0|4059000000000000|0000000000000000"
          ∷ "H|1000000|0|4059000000000000|0000000000000000" ∷ "H|2000000|0|4059000000000000|0000000000000000"
          ∷ "H|3000000|1|4059000000000000|-" ∷ [];
      operates = LO ∷ [];
    }

-- "1,000 and 1,001 join the examples": a clause of 1,000 is not met by 999, and is by 1,000 and by 1,001, which a bar may have
abbrev pub score_of_1000 : Case
score_of_1000 =
    record {
      input =
          "P|n|s|0|5|100|1" ∷ "O|LO|go" ∷ "A|d1_u_w_up_任意_任意_1000" ∷ "X|LE|out" ∷ "A|d1_u_w_down_任意_任意_1000" ∷ "-"
          ∷ "B|1|0|0|4059000000000000" ∷ "S|d1_u_w|up_a_b_999" ∷ "B|2|1000000|0|4059000000000000" ∷ "S|d1_u_w|up_a_b_1000"
          ∷ "B|3|2000000|0|4059000000000000" ∷ "S|d1_u_w|down_a_b_999" ∷ "B|4|3000000|0|4059000000000000" ∷ "S|d1_u_w|down_a_b_1001" ∷ [];
      output =
          "F|0|0|0" ∷ "F|0|1|1" ∷ "F|0|1|0" ∷ "F|0|0|1"
          ∷ "R|s|n|L|1000000|3000000|4059000000000000|4059000000000000|2|go@is_match -> out@is_match|3ef845c8a0ce5129|0000000000000000|1"
          ∷ "H|0|0|4059000000000000|0000000000000000" ∷ "H|1000000|1|4059000000000000|0000000000000000"
          ∷ "H|2000000|1|4059000000000000|0000000000000000" ∷ "H|3000000|0|4059000000000000|-" ∷ [];
      operates = LO ∷ LE ∷ [];
    }

abbrev pub score_of_1001 : Case
score_of_1001 =
    record {
      input = "P|n|s|0|5|100|1" ∷ "O|LO|go" ∷ "A|d1_u_w_up_任意_任意_1001" ∷ "-" ∷ [];
      output = "E|6" ∷ [];
      operates = [];
    }

-- names that start with an operate's spelling and `#`: LO#1, and 平空# of an LE
abbrev pub tagged-names : Case
tagged-names =
    record {
      input =
          "P|n|s|0|5|100|1" ∷ "O|LO|LO#1" ∷ "A|d1_u_w_up_任意_任意_10" ∷ "X|LE|平空#" ∷ "A|d1_u_w_down_任意_任意_0" ∷ "-" ∷ "B|1|0|0|4059000000000000" ∷ up ∷ "B|2|1000000|0|4059000000000000" ∷ down ∷ [];
      output =
          "F|0|1|1" ∷ "F|0|0|1"
          ∷ "R|s|n|L|0|1000000|4059000000000000|4059000000000000|1|LO#1@LO -> 平空#@SE|3ee845c8a0ce5129|0000000000000000|1"
          ∷ "H|0|1|4059000000000000|0000000000000000" ∷ "H|1000000|0|4059000000000000|-" ∷ [];
      operates = LO ∷ LE ∷ [];
    }

-- 开多# of an SO; a name with `@` stays
abbrev pub tagged-other : Case
tagged-other =
    record {
      input =
          "P|n|s|0|5|100|1" ∷ "O|SO|开多#" ∷ "A|d1_u_w_up_任意_任意_10" ∷ "X|SE|a@b" ∷ "A|d1_u_w_down_任意_任意_0" ∷ "-" ∷ "B|1|0|0|4059000000000000"
          ∷ up ∷ "B|2|1000000|0|4059000000000000" ∷ down ∷ "B|3|2000000|0|4059000000000000" ∷ up ∷ "B|4|3000000|0|4059000000000000" ∷ down
          ∷ [];
      output =
          "F|0|-1|1" ∷ "F|0|0|1" ∷ "F|0|-1|1" ∷ "F|0|0|1"
          ∷ "R|s|n|S|0|1000000|4059000000000000|4059000000000000|1|开多#@LO -> a@b|3ee845c8a0ce5129|0000000000000000|1"
          ∷ "R|s|n|S|2000000|3000000|4059000000000000|4059000000000000|1|开多#@LO -> a@b|3ee845c8a0ce5129|0000000000000000|1"
          ∷ "H|0|-1|4059000000000000|0000000000000000" ∷ "H|1000000|0|4059000000000000|0000000000000000"
          ∷ "H|2000000|-1|4059000000000000|0000000000000000" ∷ "H|3000000|0|4059000000000000|-" ∷ [];
      operates = SO ∷ SE ∷ SO ∷ SE ∷ [];
    }

-- opened at 0 and at -0: no yield of the pair, nor of the hold
abbrev pub opened_at_zero : Case
opened_at_zero =
    record {
      input =
          soy "P|soy|M1|0|5|100|1"
          ("B|1|0|0|0000000000000000" ∷ up ∷ "B|2|1000000|0|4059000000000000" ∷ down ∷ "B|3|2000000|0|8000000000000000" ∷ up
          ∷ "B|4|3000000|0|4059000000000000" ∷ down ∷ []);
      output =
          "F|0|1|1" ∷ "F|0|0|1" ∷ "F|0|1|1" ∷ "F|0|0|1"
          ∷ "R|M1|soy|L|0|1000000|0000000000000000|4059000000000000|1|go@is_match -> out@is_match|3ee845c8a0ce5129|-|1"
          ∷ "R|M1|soy|L|2000000|3000000|8000000000000000|4059000000000000|1|go@is_match -> out@is_match|3ee845c8a0ce5129|-|1"
          ∷ "H|0|1|0000000000000000|-" ∷ "H|1000000|0|4059000000000000|c0c3880000000000" ∷ "H|2000000|1|8000000000000000|-"
          ∷ "H|3000000|0|4059000000000000|-" ∷ [];
      operates = LO ∷ LE ∷ LO ∷ LE ∷ [];
    }

-- yields past the largest double are infinite
abbrev pub endless_yields : Case
endless_yields =
    record {
      input = soy "P|soy|M1|0|5|100|1" ("B|1|0|0|0000000000000001" ∷ up ∷ "B|2|1000000|0|7fefffffffffffff" ∷ down ∷ []);
      output =
          "F|0|1|1" ∷ "F|0|0|1"
          ∷ "R|M1|soy|L|0|1000000|0000000000000001|7fefffffffffffff|1|go@is_match -> out@is_match|3ee845c8a0ce5129|7ff0000000000000|1"
          ∷ "H|0|1|0000000000000001|7ff0000000000000" ∷ "H|1000000|0|7fefffffffffffff|-" ∷ [];
      operates = LO ∷ LE ∷ [];
    }

-- no events, no bars
abbrev pub no_events : Case
no_events =
    record {
      input = "P|n|s|0|5|100|0" ∷ "-" ∷ [];
      output = [];
      operates = [];
    }

-- the sheet is refused before the lines behind `-` are read
abbrev pub sheet-first : Case
sheet-first =
    record {
      input = "P|n|s|0|5|100|0" ∷ "X|LE|a" ∷ "O|LO|b" ∷ "-" ∷ "Q" ∷ [];
      output = "E|2" ∷ [];
      operates = [];
    }

-- a signal before any bar
abbrev pub signal-first : Case
signal-first =
    record {
      input = "P|n|s|0|5|100|0" ∷ "-" ∷ "S|a|b" ∷ [];
      output = "E|2" ∷ [];
      operates = [];
    }

-- a malformed field of a bar (3), before a wrong tag behind it
abbrev pub malformed_bar : Case
malformed_bar =
    record {
      input = "P|n|s|0|5|100|0" ∷ "-" ∷ "B|1|0|+1|4059000000000000" ∷ "Q" ∷ [];
      output = "E|3" ∷ [];
      operates = [];
    }

-- capital hexadecimal digits
abbrev pub capital_digits : Case
capital_digits =
    record {
      input = "P|n|s|0|5|100|0" ∷ "-" ∷ "B|1|0|0|405F400000000000" ∷ [];
      output = "E|3" ∷ [];
      operates = [];
    }

-- ---- the table

unfoldable pub further : List CaseRow
further =
    Runs stop_edge
    ∷ Runs stop_edge_short
    ∷ Runs fine-stop
    ∷ Runs two_roundings
    ∷ Runs timeout-short
    ∷ Runs local_day_differs
    ∷ Runs local_day_same
    ∷ Runs before_1970
    ∷ Runs reversal
    ∷ Runs reversal_too_soon
    ∷ Runs reversal-same_day
    ∷ Runs refused-bars
    ∷ Runs keys_without
    ∷ Runs empty-texts
    ∷ Runs clauses
    ∷ Runs score_of_1000
    ∷ Runs score_of_1001
    ∷ Runs tagged-names
    ∷ Runs tagged-other
    ∷ Runs opened_at_zero
    ∷ Runs endless_yields
    ∷ Runs no_events
    ∷ Runs sheet-first
    ∷ Runs signal-first
    ∷ Runs malformed_bar
    ∷ Runs capital_digits
    ∷ []
