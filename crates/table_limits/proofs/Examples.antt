-- Worked examples of fine sheets, computed from the definitions. Assumes nothing.
use mathlib.Core.Bool.{true, false}
use mathlib.Core.List.{List, [], ◌∷◌}
use mathlib.Core.Path.{◌≡◌, refl}
use Prim.Native.Nat.{ℕ}
use lib.ListN.{replicate}
use Rattle.text.specs.Answer.{Answer, Got, ◌>>=◌}
use Rattle.text.specs.Literal.{bytes}
use Rattle.sheet.specs.Sheet.{All, Clause, Sheet}
use Rattle.sheet.specs.Read.{read_sheet}
use Rattle.table_limits.specs.Fine.{fine_clause, weight, fine_sheet}
use Rattle.table_limits.proofs.Opened.{opened}

-- case *1's sheet
abbrev soy : Answer Sheet
soy = read_sheet (bytes "P|soy|M1|0|5|100|0\nO|LO|go\nA|d1_u_w_up_任意_任意_10\nX|LE|out\nA|d1_u_w_down_任意_任意_0\n")

-- it can be read and is fine, and its texts take 5 bytes, and 22 and 25 for the events
soy-fine : ((soy >>= λ s. Got (fine_sheet s)) ≡ Got true) × ((soy >>= λ s. Got (weight s)) ≡ Got 52)
unfolding opened
soy-fine = (refl, refl)

-- ---- clauses that no sheet has

abbrev clause : List ℕ → List ℕ → ℕ → Clause
clause key v1 score = record { kind = All; signal = record { key = key; v1 = v1; v2 = bytes "任意"; v3 = []; score = score } }

-- a wildcard in the key, four parts, an underscore in a value, a `|`, no UTF-8, a score past its limit
clauses : (fine_clause (clause (bytes "a_b_c") (bytes "v") 1_000) ≡ true) × (fine_clause (clause [] [] 0) ≡ true)
    × (fine_clause (clause (bytes "a_任意") (bytes "v") 0) ≡ false) × (fine_clause (clause (bytes "a_b_c_d") (bytes "v") 0) ≡ false)
    × (fine_clause (clause (bytes "a") (bytes "v_w") 0) ≡ false) × (fine_clause (clause (bytes "a|b") (bytes "v") 0) ≡ false)
    × (fine_clause (clause (bytes "a") (0xff ∷ []) 0) ≡ false) × (fine_clause (clause (bytes "a") (bytes "v") 1_001) ≡ false)
unfolding opened
clauses = (refl, refl, refl, refl, refl, refl, refl, refl)

-- ---- sheets that no text says

abbrev sheet : List ℕ → ℕ → ℕ → Sheet
sheet name stop evening = record { name = name; symbol = []; interval = 0; timeout = 0; stop = stop; t0 = false; evening = evening; events = [] }

sheets : (fine_sheet (sheet (replicate 256 97) 100_000_000 1439) ≡ true) × (fine_sheet (sheet (replicate 257 97) 0 0) ≡ false)
    × (fine_sheet (sheet (bytes "a\nb") 0 0) ≡ false) × (fine_sheet (sheet [] 100_000_001 0) ≡ false) × (fine_sheet (sheet [] 0 1440) ≡ false)
unfolding opened
sheets = (refl, refl, refl, refl, refl)
