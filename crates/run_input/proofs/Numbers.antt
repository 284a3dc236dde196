-- Whole numbers of up to 18 digits behind `-`, as an i64 holds them, and the sign. Assumes nothing.
use Prim.Native.Nat.{ℕ, zero, suc, ◌+◌, ◌≤◌}
use native.Mathlib.Omega.{arith}
use mathlib.Core.List.{List, ◌∷◌}
use mathlib.Core.Logic.{◌≢◌}
use Rattle.std.specs.Prelude.{None, Some}
use mathlib.Core.Path.{◌≡◌, ◌∙◌, ap}
use borrow.Author.Tests.{ne_eqb}
use lib.IntN.{pos, neg_ℤ, ◌-ℤ◌, +ℤ_idl}
use lib.ListN.{get_or}
use lib.Seq.{slice}
use mir.Syntax.{w64}
use mir.Val.{SFits, to_z}
use mir.ValLaws.{to_z_pos}
use Rattle.le.proofs.Signs.{back, step}
use Rattle.text.specs.Number.{digits_to, plus, negated, signed_to}
use Rattle.text.specs.Read.{Part}
use Rattle.text.proofs.Laws.{part_cons, part_nil}
use Rattle.text_number.proofs.Whole.{digits_in, small}

-- ---- the negative of a number that n digits write

negative_in : (v : ℕ) → v ≤ 999999999999999999 → SFits w64 (neg_ℤ (pos v))
negative_in zero h = record { sfits = omega arith }
negative_in (suc v) h = record { sfits = omega arith }

module _ {n : ℕ} (few : n ≤ 18) (l : List ℕ) {v : ℕ} (e : Some v ≡ digits_to n l) where
  turned : SFits w64 (pos 0 -ℤ to_z w64 v) × (back w64 (pos 0 -ℤ to_z w64 v) ≡ neg_ℤ (pos v))
  turned = step (ap (λ z. pos 0 -ℤ z) (to_z_pos w64 v (small few l e)) ∙ +ℤ_idl (neg_ℤ (pos v))) (negative_in v (digits_in n l few e))

  pub minus_fits : SFits w64 (pos 0 -ℤ to_z w64 v)
  minus_fits = turned.0

  pub minus_is : Some (back w64 (pos 0 -ℤ to_z w64 v)) ≡ negated (digits_to n l)
  minus_is = ap Some turned.1 ∙ ap negated e

-- ---- the sign

module _ {s : List ℕ} {from to : ℕ} (p : Part s from to) (n : ℕ) where
  pub signed-none : from ≡ to → None ≡ signed_to n (slice from to s)
  unfolding signed_to
  signed-none e = rw (part_nil from to s (omega arith))

  module _ (h : from ≢ to) where
    first : slice from to s ≡ get_or s from 0 ∷ slice (from + 1) to s
    first = part_cons from to s (omega (arith, p.order)) p.within

    pub signed-plain : get_or s from 0 ≢ 45 → plus (digits_to n (slice from to s)) ≡ signed_to n (slice from to s)
    unfolding signed_to
    signed-plain u = rw (first, signed_to, ne_eqb _ _ u)

    pub signed_minus : get_or s from 0 ≡ 45 → negated (digits_to n (slice (from + 1) to s)) ≡ signed_to n (slice from to s)
    unfolding signed_to
    signed_minus e = rw (first, signed_to, e)
