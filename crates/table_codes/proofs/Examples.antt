-- Two clauses by their places: the first use of each key and value, and what the code asks of them. Assumes nothing.
use Prim.Native.Nat.{ℕ, zero, suc, ◌*◌, ◌<◌}
use native.Mathlib.Omega.{arith}
use mathlib.Core.Path.{◌≡◌, refl}
use mathlib.Core.List.{List, [], ◌∷◌}
use lib.ListN.{drop}
use Rattle.text.specs.Literal.{bytes}
use Rattle.sheet.specs.Places.{clause_at, ClauseOk}
use Rattle.table_parts.specs.Codes.{keys_in, values_in, noted_all, numbers_of, values_noted, codes_of}
use Rattle.table_codes.specs.Read.{clauses_in, value_in, RowsOk}
use Rattle.table_codes.proofs.Opened.{opened}

-- two signals, with a byte between them
unfoldable s : List ℕ
s = bytes "a_b_c_x_任意_y_5 a_b_c_y_x_z_9"

abbrev cs : List ℕ
cs = 0 ∷ 0 ∷ 1 ∷ 3 ∷ 5 ∷ 7 ∷ 14 ∷ 16 ∷ 5 ∷ 2 ∷ 19 ∷ 1 ∷ 3 ∷ 5 ∷ 7 ∷ 9 ∷ 11 ∷ 9 ∷ []

-- one key twice
keys : (noted_all [] (keys_in (clauses_in s cs 2)) ≡ bytes "a_b_c" ∷ []) × (numbers_of [] (keys_in (clauses_in s cs 2)) ≡ 0 ∷ 0 ∷ [])
unfolding opened clause_at s
keys = (refl, refl)

-- x, the wildcard, y, then y, x and a third
values : (values_noted [] (values_in (clauses_in s cs 2)) ≡ bytes "x" ∷ bytes "y" ∷ bytes "z" ∷ [])
    × (codes_of [] (values_in (clauses_in s cs 2)) ≡ 1 ∷ 65535 ∷ 2 ∷ 2 ∷ 1 ∷ 3 ∷ [])
unfolding opened clause_at s
values = (refl, refl)

-- value 3 is the second clause's first
fourth : value_in s cs 3 ≡ bytes "y"
unfolding opened clause_at s
fourth = refl

-- the code may be asked for them
places : RowsOk s cs 2
unfolding opened clause_at s
places = record { rows = omega arith; clauses = clauses; light = omega arith }
  where
    clauses : (i : ℕ) → i < 2 → ClauseOk s (drop (9 * i) cs)
    clauses zero h = record {
      kind = omega arith;
      within = omega arith;
      signal = record {
        k1-k2 = omega arith;
        k2-k3 = omega arith;
        k3-v1 = omega arith;
        v1-v2 = omega arith;
        v2-v3 = omega arith;
        within = omega arith;
        low = omega arith;
      };
    }
    clauses (suc zero) h = record {
      kind = omega arith;
      within = omega arith;
      signal = record {
        k1-k2 = omega arith;
        k2-k3 = omega arith;
        k3-v1 = omega arith;
        v1-v2 = omega arith;
        v2-v3 = omega arith;
        within = omega arith;
        low = omega arith;
      };
    }
    clauses (suc (suc i)) h = absurd (omega arith)
