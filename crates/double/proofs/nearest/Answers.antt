-- `double::nearest` meets its contract. Assumes nothing.
use Prim.Native.Nat.{ℕ, ◌+◌, ◌-◌, ◌/◌, ◌^◌, ◌<◌, zero-le}
use native.Mathlib.Nat.{div-le_self}
use native.Mathlib.Omega.{arith}
use mathlib.Core.Path.{sym}
use mir.Syntax.{w64}
use mir.Val.{Fits}
use Rattle.double.proofs.Away.{low_near, high-near}
use Rattle.double.proofs.nearest.Goals as goal

pub returns-then-e-lt1022 : goal.returns-then-e-lt1022
returns-then-e-lt1022 c = (sym (low_near c.args.e c.args.t (omega arith)), zero-le)

quotient_fits : (a d : ℕ) → a < 2 ^ 54 → Fits w64 (a / d + 1)
quotient_fits a d h = record { fits = omega (arith, div-le_self a d) }

pub returns : goal.returns
returns c =
    let a = c.args in
    (sym (high-near a.e a.t (omega arith)), omega (arith, div-le_self (4503599627370496 + a.t) (2 ^ (1074 - a.e))))

pub overflow_add-q-2 : goal.overflow_add-q-2
overflow_add-q-2 c = quotient_fits _ _ (omega arith)
