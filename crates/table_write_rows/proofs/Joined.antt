-- Laws of `PutOf`: what is written one behind another. Assumes nothing.
use Prim.Native.Nat.{ℕ, ◌+◌, ◌-◌, ◌≤◌}
use native.Mathlib.Omega.{arith}
use mathlib.Core.Path.{◌≡◌, refl}
use mathlib.Core.List.{List, ◌++◌}
use lib.ListN.{length}
use lib.Seq.{slice, length-slice}
use Rattle.le.specs.Le.{patch, le_bytes}
use Rattle.text.specs.Read.{Part, Put}
use Rattle.text.proofs.Put.{put-put}
use Rattle.table_layout.proofs.Fill.{put-number}
use Rattle.table_write_rows.specs.Rows.{PutOf}

-- a number in n bytes
pub number_put : (n v : ℕ) {l m : List ℕ} {at : ℕ} → m ≡ patch l at (le_bytes n v) → at + n ≤ length l → PutOf n l m at (le_bytes n v) (at + n)
number_put n v w h = record { put = put-number n v w h; near = refl }

-- a text
pub text-put : {src : List ℕ} {from to : ℕ} → Part src from to → {l m : List ℕ} {at r : ℕ} → Put l m at (slice from to src) r
    → PutOf (to - from) l m at (slice from to src) r
text-put {src} {from} {to} h w = record { put = w; near = omega (arith, w.end, length-slice from to src h.within) }

-- one behind another
infixl 10 ◌then◌
pub ◌then◌ : {n k : ℕ} {l m z t u : List ℕ} {at r q : ℕ} → PutOf n l m at t r → PutOf k m z r u q → PutOf (n + k) l z at (t ++ u) q
x then y = record { put = put-put x.put y.put; near = omega arith }
