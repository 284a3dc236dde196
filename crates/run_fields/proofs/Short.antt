-- Texts of a few bytes, written one behind another. Assumes nothing.
use Prim.Native.Nat.{ℕ, ◌+◌, ◌-◌, ◌≤◌}
use native.Mathlib.Omega.{arith}
use mathlib.Core.Path.{◌≡◌, ◌∙◌, ap}
use mathlib.Core.List.{List, [], ◌∷◌, ◌++◌}
use lib.IntN.{ℤ}
use lib.ListN.{length}
use lib.Seq.{slice, length-slice}
use Rattle.le.specs.Le.{part}
use Rattle.text.specs.Text.{pipe}
use Rattle.text.specs.Number.{integer_of, hex_of}
use Rattle.text.specs.Read.{Part, Put}
use Rattle.text.proofs.Put.{put-put}
use Rattle.text_write.proofs.Written.{length_hex}
use Rattle.book_header_check.proofs.Fields.{bytes-are}
use Rattle.run_fields.specs.Fields.{fields_text, ShortPut}
use Rattle.run_fields.proofs.Lines.{put-more, put_one}

-- the same text by another name
pub short_as : {n : ℕ} {a b t u : List ℕ} {at r : ℕ} → t ≡ u → ShortPut n a b at t r → ShortPut n a b at u r
short_as e p = rw (← e) p

pub short-put : (n : ℕ) {a b t : List ℕ} {at r : ℕ} → Put a b at t r → length t ≤ n → ShortPut n a b at t r
short-put n p h = record { put = p; short = omega arith }

pub short_wider : {m : ℕ} (n : ℕ) {a b t : List ℕ} {at r : ℕ} → ShortPut m a b at t r → m ≤ n → ShortPut n a b at t r
short_wider n p h = record { put = p.put; short = omega arith }

-- ---- a field and its `|`

pub short_field : {n : ℕ} {a b c t : List ℕ} {at r end : ℕ} → ShortPut n a b at t r → Put b c r (pipe ∷ []) end → ShortPut (n + 1) a c at (t ++ pipe ∷ []) end
short_field u v = record { put = put-put u.put v; short = omega arith }

pub field_put : (n : ℕ) {a b c t : List ℕ} {at r end : ℕ} → length t ≤ n → Put a b at t r → Put b c r (pipe ∷ []) end → ShortPut (n + 1) a c at (t ++ pipe ∷ []) end
field_put n h u v = short_field (short-put n u h) v

pub part_field : {s a b c : List ℕ} {from to at r end : ℕ} → Part s from to → Put a b at (slice from to s) r → Put b c r (pipe ∷ []) end
    → ShortPut (to - from + 1) a c at (slice from to s ++ pipe ∷ []) end
part_field {s} {from = from} {to} p u v = field_put (to - from) (omega (arith, length-slice from to s p.within)) u v

-- the place behind a part
pub part_end : {s a b : List ℕ} {from to at r : ℕ} → Part s from to → Put a b at (slice from to s) r → r ≡ at + (to - from)
part_end {s} {from = from} {to} p u = omega (arith, length-slice from to s p.within)

-- a number by another name
pub integer_as : {n : ℕ} {a b : List ℕ} {at r : ℕ} {y z : ℤ} → y ≡ z → ShortPut n a b at (integer_of y ++ pipe ∷ []) r → ShortPut n a b at (integer_of z ++ pipe ∷ []) r
integer_as e p = short_as (ap (λ (x : ℤ). integer_of x ++ pipe ∷ []) e) p

-- a part by its length
pub part_as : (s : List ℕ) (at n to : ℕ) → to ≡ at + n → {k : ℕ} {a b : List ℕ} {i r : ℕ} → ShortPut k a b i (slice at to s ++ pipe ∷ []) r → ShortPut k a b i (part s at n ++ pipe ∷ []) r
part_as s at n to e p = short_as (ap (λ (j : ℕ). slice at j s ++ pipe ∷ []) e ∙ ap (λ (x : List ℕ). x ++ pipe ∷ []) (bytes-are s at n)) p

-- ---- fields that others follow

pub short-more : {i j : ℕ} {a b c : List ℕ} {at r end : ℕ} (p : List ℕ) (ps : List (List ℕ)) → ShortPut i a b at (p ++ pipe ∷ []) r → ShortPut j b c r (fields_text ps) end → ShortPut (i + j) a c at (fields_text (p ∷ ps)) end
short-more p ps u v = record { put = put-more p ps u.put v.put; short = omega arith }

pub short-one : {n : ℕ} {a b : List ℕ} {at end : ℕ} (p : List ℕ) → ShortPut n a b at (p ++ pipe ∷ []) end → ShortPut n a b at (fields_text (p ∷ [])) end
short-one p u = record { put = put_one p u.put; short = u.short }

-- ---- the bits of a double

pub hex_short : (v : ℕ) {a b : List ℕ} {at r : ℕ} → Put a b at (hex_of 16 v) r → ShortPut 16 a b at (hex_of 16 v) r
hex_short v u = short-put 16 u (omega (arith, length_hex 16 v))
