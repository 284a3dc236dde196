-- Words in the order of first use, and case *1's draft: what is known of it, and that it means the sheet. Assumes nothing.
use Prim.Native.Nat.{ℕ, zero, suc, ◌+◌, ◌<◌, ◌≤◌}
use native.Mathlib.Omega.{arith}
use mathlib.Core.Bool.{true}
use mathlib.Core.List.{List, [], ◌∷◌}
use mathlib.Core.Path.{◌≡◌, refl}
use lib.ListN.{get_or}
use Rattle.text.specs.Answer.{Got}
use Rattle.text.specs.Literal.{bytes}
use Rattle.sheet.specs.Read.{read_sheet}
use Rattle.sheet.specs.Places.{clause_at, event_at, sheet_at, SheetOk}
use Rattle.sheet.specs.declared.SheetAt.{SheetAt}
use Rattle.table_limits.specs.Fine.{fine_sheet}
use Rattle.table.specs.Table.{parts_ok, sheet_of}
use Rattle.table_parts.specs.Codes.{noted_all, numbers_of, values_noted, codes_of}
use Rattle.table_wordbook.specs.Wordbook.{Words, BookOf}
use Rattle.table_parts.specs.Draft.{draft, Drafted}
use Rattle.table_parts.proofs.Opened.{opened}

-- ---- "in order of first use"

abbrev keys : List (List ℕ)
keys = bytes "b" ∷ bytes "a" ∷ bytes "b" ∷ []

keys-noted : (noted_all [] keys ≡ bytes "b" ∷ bytes "a" ∷ []) × (numbers_of [] keys ≡ 0 ∷ 1 ∷ 0 ∷ [])
unfolding opened
keys-noted = (refl, refl)

abbrev values : List (List ℕ)
values = bytes "up" ∷ bytes "任意" ∷ bytes "down" ∷ bytes "up" ∷ []

values-noted : (values_noted [] values ≡ bytes "up" ∷ bytes "down" ∷ []) × (codes_of [] values ≡ 1 ∷ 65535 ∷ 2 ∷ 1 ∷ [])
unfolding opened
values-noted = (refl, refl)

-- ---- case *1

unfoldable soy : List ℕ
soy = bytes "P|soy|M1|0|5|100|0\nO|LO|go\nA|d1_u_w_up_任意_任意_10\nX|LE|out\nA|d1_u_w_down_任意_任意_0\n"

abbrev events : List ℕ
events = 0 ∷ 3 ∷ 24 ∷ 2 ∷ 0 ∷ 1 ∷ 1 ∷ 4 ∷ 61 ∷ 3 ∷ 1 ∷ 1 ∷ []

abbrev clauses : List ℕ
clauses = 0 ∷ 29 ∷ 2 ∷ 4 ∷ 6 ∷ 9 ∷ 16 ∷ 23 ∷ 10 ∷ 0 ∷ 67 ∷ 2 ∷ 4 ∷ 6 ∷ 11 ∷ 18 ∷ 25 ∷ 0 ∷ []

abbrev places : SheetAt
places = record { name = 5; symbol = 8; interval = 0; timeout = 5; stop = 10_000; t0 = 0; evening = 0; events = 2; clauses = 2 }

abbrev numbers : List ℕ
numbers = 0 ∷ 0 ∷ []

abbrev codes : List ℕ
codes = 1 ∷ 65535 ∷ 65535 ∷ 2 ∷ 65535 ∷ 65535 ∷ []

unfoldable ks : Words
ks = record { texts = bytes "d1_u_w"; starts = 0 ∷ 6 ∷ []; orders = 0 ∷ []; ranks = 0 ∷ []; count = 1 }

unfoldable vs : Words
vs = record { texts = bytes "updown"; starts = 0 ∷ 2 ∷ 6 ∷ []; orders = 1 ∷ 0 ∷ []; ranks = 1 ∷ 0 ∷ []; count = 2 }

-- the places are the text's, and the sheet is fine
soy-read : (read_sheet soy ≡ Got (sheet_at soy events clauses places)) × (fine_sheet (sheet_at soy events clauses places) ≡ true)
unfolding opened soy sheet_at clause_at event_at
soy-read = (refl, refl)

-- its draft is right and means it
soy-right : (parts_ok (draft soy events clauses places numbers codes ks vs) ≡ true) × (sheet_of (draft soy events clauses places numbers codes ks vs) ≡ sheet_at soy events clauses places)
unfolding opened soy sheet_at clause_at event_at ks vs
soy-right = (refl, refl)

-- and what the theorem asks of it is so
ks_book : BookOf ks
unfolding opened ks
ks_book = record { first = refl; rising = rising; within = omega arith; starts-room = omega arith; orders-room = omega arith; ranks-room = omega arith; sorted = refl }
  where
    rising : (i : ℕ) → i < 1 → get_or (0 ∷ 6 ∷ []) i 0 ≤ get_or (0 ∷ 6 ∷ []) (i + 1) 0
    rising zero h = omega arith
    rising (suc i) h = absurd (omega arith)

vs_book : BookOf vs
unfolding opened vs
vs_book = record { first = refl; rising = rising; within = omega arith; starts-room = omega arith; orders-room = omega arith; ranks-room = omega arith; sorted = refl }
  where
    rising : (i : ℕ) → i < 2 → get_or (0 ∷ 2 ∷ 6 ∷ []) i 0 ≤ get_or (0 ∷ 2 ∷ 6 ∷ []) (i + 1) 0
    rising zero h = omega arith
    rising (suc zero) h = omega arith
    rising (suc (suc i)) h = absurd (omega arith)

soy_drafted : SheetOk soy events clauses places → Drafted soy events clauses places numbers codes ks vs
unfolding opened soy clause_at ks vs
soy_drafted ok =
    record { sheet = ok; keys = ks_book; keys-are = refl; numbers_are = refl; values = vs_book; values-are = refl; codes_are = refl }
