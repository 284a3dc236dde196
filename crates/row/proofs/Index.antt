-- A row by its index as the machine has it: below 0 there is none, and else rows are counted from 0. Assumes nothing.
use mathlib.Core.Path.{◌≡◌, ◌∙◌, refl, sym, ap}
use mathlib.Core.List.{List}
use Prim.Native.Nat.{ℕ}
use Rattle.std.specs.Prelude.{None, Ok, Err, slice_get}
use lib.IntN.{ℤ, pos, negsuc}
use mir.Syntax.{w64}
use mir.Val.{SFits}
use mir.Facts.{to_z-of_z}
use Rattle.le.proofs.Signs.{back}
use Rattle.row.specs.declared.RowError.{RowError}
use Rattle.row.specs.declared.RowError.TheVariants.{PastLast}
use Rattle.row.specs.Read.{index_of}
use Rattle.row.specs.Calls.{row_at}

module _ {X : Type 0} (rows : List X) where
  -- handed on, an index is read back
  pub index_back : (i : ℤ) → SFits w64 i → row_at rows (back w64 i) ≡ row_at rows i
  index_back i F = ap (row_at rows) (to_z-of_z {w = w64} F)

  below : (i : ℤ) {e : RowError} → Err e ≡ index_of i → (e ≡ PastLast) × (row_at rows i ≡ None)
  below (pos k) h = absurd (cc)
  below (negsuc k) h = (cc, refl)

  is : (i : ℤ) {k : ℕ} → Ok k ≡ index_of i → row_at rows i ≡ slice_get rows k
  is (pos j) {k} h = ap (slice_get rows) (let e : k ≡ j = cc in sym e)
  is (negsuc j) h = absurd (cc)

  pub index_below : {i : ℤ} {e : RowError} → SFits w64 i → Err e ≡ index_of (back w64 i) → (e ≡ PastLast) × (row_at rows i ≡ None)
  index_below {i} F h = let b = below (back w64 i) h in (b.0, sym (index_back i F) ∙ b.1)

  pub index_is : {i : ℤ} {k : ℕ} → SFits w64 i → Ok k ≡ index_of (back w64 i) → row_at rows i ≡ slice_get rows k
  index_is {i} F h = sym (index_back i F) ∙ is (back w64 i) h
