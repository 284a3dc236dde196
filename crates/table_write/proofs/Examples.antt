-- A sheet of one event with one clause: what writing its table asks is so. Assumes nothing.
use Prim.Native.Nat.{ℕ, zero, suc, ◌+◌, ◌*◌, ◌<◌, ◌≤◌}
use native.Mathlib.Omega.{arith}
use mathlib.Core.List.{List, [], ◌∷◌}
use lib.ListN.{length, get_or, drop}
use Rattle.text.specs.Literal.{bytes}
use Rattle.sheet.specs.declared.SheetAt.{SheetAt}
use Rattle.table_wordbook.specs.Wordbook.{Words}
use Rattle.table_parts.specs.Draft.{names_length}
use Rattle.table_write.specs.Fits.{TableFits}
use Rattle.table_write.proofs.Opened.{opened}

unfoldable s : List ℕ
s = bytes "P|soy|M1|0|5|100|0\nO|LO|go\nA|a_b_c_x_任意_任意_10\n"

abbrev es : List ℕ
es = 0 ∷ 3 ∷ 24 ∷ 2 ∷ 0 ∷ 1 ∷ []

abbrev cs : List ℕ
cs = 0 ∷ 29 ∷ 1 ∷ 3 ∷ 5 ∷ 7 ∷ 14 ∷ 21 ∷ 10 ∷ []

abbrev a : SheetAt
a = record { name = 5; symbol = 8; interval = 0; timeout = 5; stop = 10_000; t0 = 0; evening = 0; events = 1; clauses = 1 }

abbrev numbers : List ℕ
numbers = 0 ∷ []

abbrev codes : List ℕ
codes = 1 ∷ 65535 ∷ 65535 ∷ []

abbrev word : ℕ → List ℕ → Words
word n l = record { texts = l; starts = 0 ∷ n ∷ []; orders = 0 ∷ []; ranks = 0 ∷ []; count = 1 }

near : (i : ℕ) → i < 1 → names_length es i < 65536
unfolding opened
near zero h = omega arith
near (suc i) h = absurd (omega arith)

name_in : (i : ℕ) → i < 1 → get_or (drop (6 * i) es) 2 0 + get_or (drop (6 * i) es) 3 0 ≤ length s
unfolding opened s
name_in zero h = omega arith
name_in (suc i) h = absurd (omega arith)

rising : (n i : ℕ) → i < 1 → get_or (0 ∷ n ∷ []) i 0 ≤ get_or (0 ∷ n ∷ []) (i + 1) 0
rising n zero h = omega arith
rising n (suc i) h = absurd (omega arith)

all_fits : TableFits s es cs a numbers codes (word 5 (bytes "a_b_c")) (word 1 (bytes "x"))
unfolding opened s
all_fits = record {
  settings = record { interval = omega arith; timeout = omega arith; stop = omega arith; t0 = omega arith; evening = omega arith };
  events = record { room = omega arith; near = near };
  clauses = record { room = omega arith; keys = omega arith; values = omega arith };
  keys = record { starts-room = omega arith; orders-room = omega arith; ranks-room = omega arith; rising = rising 5 };
  values = record { starts-room = omega arith; orders-room = omega arith; ranks-room = omega arith; rising = rising 1 };
  texts = record {
    name = omega arith;
    symbol = omega arith;
    within = omega arith;
    names = record { room = omega arith; each = name_in };
    keys = omega arith;
    values = omega arith;
  };
  room = omega arith;
}
