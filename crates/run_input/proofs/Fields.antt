-- What a B line says, by the fields that were found. Assumes nothing.
use Prim.Native.Nat.{ℕ, ◌+◌}
use native.Mathlib.Omega.{arith}
use mathlib.Core.Bool.{Bool, true, false, cond}
use mathlib.Core.List.{List, [], ◌∷◌}
use Rattle.std.specs.Prelude.{None, Some}
use mathlib.Core.Path.{◌≡◌, refl, sym, ap, subst}
use borrow.Author.Tests.{eqb-true}
use lib.Dec.{T, eqb}
use lib.Ieee.{Float, binary64, fits, of_bits}
use lib.Ieee.Bits.{of_bits-fits}
use lib.IntN.{ℤ}
use lib.ListN.{length}
use lib.Seq.{slice, length-slice}
use mir.Syntax.{w64}
use mir.Val.{SFits}
use mir.Facts.{to_z-of_z}
use Rattle.le.proofs.Signs.{back}
use Rattle.text.specs.Literal.{bytes}
use Rattle.text.specs.Number.{digits_to, plus, signed_to, bits_of, hex_digits}
use Rattle.text.specs.Text.{pipe, split}
use Rattle.sheet.specs.Places.{fields_of}
use Rattle.sheet.proofs.Fields.{Cut, last_field}
use Rattle.position.specs.Run.{bar_line}
use Rattle.run_input.specs.Lines.{BarAs}
use Rattle.text_number.proofs.Whole.{not_some}

-- bits that were read are sixteen digits
bits_size : (l : List ℕ) {v : ℕ} → Some v ≡ bits_of l → length l ≡ 16
unfolding bits_of
bits_size l {v} e = go (eqb (length l) 16) refl e
  where
    go : (t : Bool) → eqb (length l) 16 ≡ t → Some v ≡ cond t (hex_digits (Some 0) l) None → length l ≡ 16
    go true h k = eqb-true (length l) 16 h
    go false h k = absurd (not_some k)

module _ {s : List ℕ} {from to a : ℕ} (f : Cut s from to a 3) where
  five : length (bytes "B" ∷ split pipe (slice from to s)) ≡ 5
  five = omega (arith, ap length f.fields, f.left)

  pub bad_id : None ≡ plus (digits_to 10 (slice from a s)) → BarAs (slice from to s) None
  unfolding bar_line
  bad_id e = record { is = rw (five, f.fields, ← e); ok = tt }

  module _ {id : ℤ} (e0 : Some id ≡ plus (digits_to 10 (slice from a s))) {b : ℕ} (g : Cut s (a + 1) to b 2) where
    pub bad_instant : None ≡ plus (digits_to 16 (slice (a + 1) b s)) → BarAs (slice from to s) None
    unfolding bar_line
    bad_instant e = record { is = rw (five, f.fields, g.fields, ← e0, ← e); ok = tt }

    module _ {instant : ℤ} (e1 : Some instant ≡ plus (digits_to 16 (slice (a + 1) b s))) {c : ℕ} (h : Cut s (b + 1) to c 1) where
      pub bad_offset : None ≡ signed_to 10 (slice (b + 1) c s) → BarAs (slice from to s) None
      unfolding bar_line
      bad_offset e = record { is = rw (five, f.fields, g.fields, h.fields, ← e0, ← e1, ← e); ok = tt }

      module _ {offset : ℤ} (e2 : Some offset ≡ signed_to 10 (slice (b + 1) c s)) where
        last : fields_of s (c + 1) to ≡ slice (c + 1) to s ∷ []
        last = last_field s (c + 1) to h.left

        pub bad_price : None ≡ bits_of (slice (c + 1) to s) → BarAs (slice from to s) None
        unfolding bar_line
        bad_price e = record { is = rw (five, f.fields, g.fields, h.fields, last, ← e0, ← e1, ← e2, ← e); ok = tt }

        pub bar-is : {bits : ℕ} → Some bits ≡ bits_of (slice (c + 1) to s) → {x : Float} → x ≡ of_bits binary64 bits
            → SFits w64 id → SFits w64 instant → SFits w64 offset
            → BarAs (slice from to s) (Some (record { id = back w64 id; instant = back w64 instant; offset = back w64 offset; price = x }))
        unfolding bar_line
        bar-is {bits} e3 {x} k i j o = record {
          is = rw (five, f.fields, g.fields, h.fields, last, ← e0, ← e1, ← e2, ← e3, to_z-of_z i, to_z-of_z j, to_z-of_z o, k);
          ok = (
            subst (λ y. T (fits binary64 y)) (sym k) (of_bits-fits binary64 bits),
            omega (arith, bits_size (slice (c + 1) to s) e3, length-slice (c + 1) to s h.within, length-slice from to s h.within, f.low, g.low, h.low),
          );
        }
