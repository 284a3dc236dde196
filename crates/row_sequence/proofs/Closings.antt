-- The text of a stop or timeout: the name of the closing, `@`, a number and its unit. Assumes nothing.
use Prim.Native.Nat.{ℕ, ◌/◌, ◌^◌, ◌<◌, ◌≤◌}
use native.Mathlib.Omega.{arith}
use mathlib.Core.Path.{◌≡◌, refl}
use mathlib.Core.Logic.{◌≢◌}
use mathlib.Core.Bool.{Bool, true, false, cond}
use mathlib.Core.List.{List, [], ◌∷◌, ◌++◌}
use borrow.Author.Tests.{eq-eqb, ne_eqb}
use lib.Dec.{eqb}
use lib.ListN.{length, get_or, length-append}
use lib.Seq.{slice, take-length}
use Rattle.text.specs.Literal.{bytes, encoded}
use Rattle.text.specs.Read.{Put}
use Rattle.text.proofs.Put.{put-put, put_whole}
use Rattle.text_write.proofs.Written.{length_decimal}
use Rattle.stop.specs.Stop.{stop_text}
use Rattle.stop.proofs.Kept.{text-length}
use Rattle.operate.specs.Operate.{chinese, LE, SE}
use Rattle.operate.specs.Read.{Name}
use Rattle.position.specs.Rows.{close_name}
use Rattle.row_sequence.specs.Part.{PartPut}

-- ---- the name of the closing

-- the whole array of a name
name-put : {l m name x : List ℕ} {at r : ℕ} → Name name 6 x → Put l m at (slice 0 6 x) r → Put l m at name r
name-put {x = x} n p = rw (← n.is, ← take-length x, ← n.size) p

module _ {l m x : List ℕ} {at r operate : ℕ} where
  pub close_short : operate ≡ SE → Name (get_or chinese SE []) 6 x → Put l m at (slice 0 6 x) r → Put l m at (close_name operate) r
  unfolding chinese
  close_short e n p = rw (eq-eqb operate SE e) (name-put n p)

  pub close_long : operate ≢ SE → Name (get_or chinese LE []) 6 x → Put l m at (slice 0 6 x) r → Put l m at (close_name operate) r
  unfolding chinese
  close_long e n p = rw (ne_eqb operate SE e) (name-put n p)

pub close_length : (operate : ℕ) → length (close_name operate) ≡ 6
unfolding bytes encoded
close_length operate = go (eqb operate SE)
  where
    go : (b : Bool) → length (cond b (bytes "平空") (bytes "平多")) ≡ 6
    go true = refl
    go false = refl

-- ---- the text

pub closing-length : (operate h : ℕ) (unit : List ℕ) → h < 2 ^ 64 → length unit ≤ 8 → length (close_name operate ++ bytes "@" ++ stop_text h ++ unit) ≤ 38
unfolding bytes encoded
closing-length operate h unit k n =
    rw (length-append, length-append, length-append) (omega (arith, close_length operate, text-length h, length_decimal (h / 100) (omega arith)))

pub closing-put : (operate h : ℕ) (unit : List ℕ) {a b c d e : List ℕ} {at p q r end : ℕ} → h < 2 ^ 64 → length unit ≤ 8 → Put a b at (close_name operate) p → Put b c p (64 ∷ []) q → Put c d q (stop_text h) r
    → Put d e r (slice 0 (length unit) unit) end → PartPut a e at (close_name operate ++ bytes "@" ++ stop_text h ++ unit) end
unfolding bytes encoded
closing-put operate h unit k n w x y z = record {
  put = put-put (put-put (put-put w x) y) (put_whole unit z);
  short = omega (arith, closing-length operate h unit k n);
}
