-- Bytes compared as parts. Assumes nothing.
use Prim.Native.Nat.{ℕ, ◌+◌, ◌-◌}
use native.Mathlib.Omega.{arith}
use mathlib.Core.List.{List}
use mathlib.Core.Path.{◌≡◌, sym, ap₂}
use Rattle.text.specs.Text.{same}
use lib.Seq.{slice}
use Rattle.le.specs.Le.{part}
use Rattle.text.proofs.Laws.{part-size}

-- the n bytes from `at` on
pub bytes-are : (l : List ℕ) (at n : ℕ) → slice at (at + n) l ≡ part l at n
unfolding part
bytes-are l at n =
    let e : at + n - at ≡ n = omega arith in
    sym (rw e at (part-size at (at + n) l (omega arith)))

-- the first bytes of a slot, which are the header's end and its offset
pub same_end : (o b : List ℕ) → same (slice 0 12 o) (slice 32 44 b) ≡ same (part o 0 12) (part b 32 12)
same_end o b = ap₂ same (bytes-are o 0 12) (bytes-are b 32 12)
