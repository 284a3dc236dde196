-- A presence byte: what it stands for is there, where it is not 0. Assumes nothing.
use Prim.Native.Nat.{ℕ, zero, suc}
use native.Mathlib.Omega.{arith}
use mathlib.Core.Bool.{not}
use mathlib.Core.Path.{◌≡◌, refl}
use lib.Dec.{eqb}
use borrow.Author.Tests.{ne_eqb}
use Rattle.std.specs.Bool.{then_some}
use Rattle.bar.specs.declared.Time.{Time}
use Rattle.position.specs.declared.LastEvent.{LastEvent}
use Rattle.book.specs.Layout.{open_at, reference_at}

pub open_present : (n : ℕ) (t : Time) → then_some (not (eqb n 0)) t ≡ open_at n t
open_present zero t = refl
open_present (suc n) t = rw (ne_eqb (suc n) 0 (λ e. omega arith)) refl

pub reference_present : (n : ℕ) (r : LastEvent) → then_some (not (eqb n 0)) r ≡ reference_at n r
reference_present zero r = refl
reference_present (suc n) r = rw (ne_eqb (suc n) 0 (λ e. omega arith)) refl
