-- How large a number of up to 18 digits is: an i64 holds it. Assumes nothing.
use Prim.Native.Nat.{ℕ, ◌^◌, ◌≤◌, ◌<◌}
use native.Mathlib.Decide.{dec_le}
use native.Mathlib.Omega.{arith}
use mathlib.Core.List.{List}
use Rattle.std.specs.Prelude.{Option, None, Some}
use mathlib.Core.Path.{◌≡◌, ◌∙◌, sym, ap}
use borrow.Author.Tests.{le-leb, lt-leb}
use lib.IntN.{pos}
use lib.ListN.{length}
use mir.Syntax.{w64}
use mir.Val.{SFits, to_z}
use mir.ValLaws.{to_z_pos}
use Rattle.text.specs.Number.{natural, at_most, digits_to, plus}
use Rattle.text.specs.Read.{Part}
use Rattle.text.proofs.Laws.{part_end}
use Rattle.text_number.proofs.Digits.{decimal_few, decimal_long}

pub not_some : {X : Type 0} {x : X} → Some x ≡ None → ⊥
not_some e = absurd (let z : ◌≡◌ {A = ℕ} 0 1 = cc in omega arith)

pub digits_in : (n : ℕ) (l : List ℕ) {v : ℕ} → n ≤ 18 → Some v ≡ digits_to n l → v ≤ 999999999999999999
digits_in n l {v} k e =
    elim (dec_le (length l) n) [
      | yes h ↦ below (natural l) (e ∙ sym (rw (part_end 0 l) at (decimal_few whole n k (omega arith))))
      | no h ↦ absurd (not_some (e ∙ sym (rw (part_end 0 l) at (decimal_long whole n (omega arith)))))
    ]
  where
    whole : Part l 0 (length l)
    whole = record { order = omega arith; within = omega arith }

    below : (o : Option ℕ) → Some v ≡ at_most 999999999999999999 o → v ≤ 999999999999999999
    below None g = absurd (not_some g)
    below (Some w) g =
        elim (dec_le w 999999999999999999) [
          | yes h ↦ (let u : v ≡ w = cc (g, le-leb w 999999999999999999 h) in omega arith)
          | no h ↦ absurd (not_some (g ∙ rw (lt-leb w 999999999999999999 (omega arith))))
        ]

module _ {n : ℕ} (few : n ≤ 18) (l : List ℕ) {v : ℕ} (e : Some v ≡ digits_to n l) where
  pub small : v < 2 ^ 63
  small = omega (arith, digits_in n l few e)

  pub plain_fits : SFits w64 (pos v)
  plain_fits = record { sfits = small }

  pub plain-is : Some (to_z w64 v) ≡ plus (digits_to n l)
  plain-is = ap Some (to_z_pos w64 v small) ∙ ap plus e
