-- An event's count. Assumes nothing.
use Prim.Native.Nat.{ℕ, ◌+◌, ◌*◌, ◌≤◌}
use native.Mathlib.Omega.{arith}
use mathlib.Core.Path.{◌≡◌}
use mathlib.Core.List.{List, [], ◌∷◌}
use lib.ListN.{length, get_or, set}
use lib.Seq.{sets-eq, get_or-drop}
use Rattle.le.specs.Le.{patch}
use Rattle.sheet.specs.Places.{event_number}

-- ---- an event's count

pub number_at : (es : List ℕ) (i j : ℕ) → event_number es i j ≡ get_or es (6 * i + j) 0
number_at es i j = get_or-drop (6 * i) es j 0

pub one_more : (es : List ℕ) (i : ℕ) → 6 * i + 6 ≤ length es → set es (6 * i + 5) (get_or es (6 * i + 5) 0 + 1) ≡ patch es (6 * i + 5) ((event_number es i 5 + 1) ∷ [])
unfolding patch
one_more es i h = rw (number_at es i 5) (sets-eq ((get_or es (6 * i + 5) 0 + 1) ∷ []) es (6 * i + 5) (omega arith))
