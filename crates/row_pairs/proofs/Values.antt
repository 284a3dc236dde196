-- The values of a pair row: seconds that are handed on, the id difference, and the row by its parts. Assumes nothing.
use Prim.Native.Nat.{ℕ, ◌+◌, ◌^◌, ◌<◌}
use native.Mathlib.Omega.{arith}
use mathlib.Core.Path.{◌≡◌, ◌∙◌, ap₂}
use lib.IntN.{ℤ, sub_ℕ, ◌-ℤ◌}
use lib.Ieee.{Float}
use lib.Signed.{mag}
use mir.Syntax.{w64}
use mir.Val.{SFits, to_z}
use mir.ValLaws.{to_z_pos}
use mir.Facts.{to_z-of_z}
use Rattle.double.specs.declared.Yield.{Yield}
use Rattle.le.proofs.Signs.{back, step}
use Rattle.double.specs.Double.{days_of, pair_yield}
use Rattle.double.specs.declared.Side.{Side}
use Rattle.bar.specs.Time.{seconds_between}
use Rattle.bar.specs.Bar.{local_of}
use Rattle.bar.specs.declared.LocalTime.{LocalTime}
use Rattle.le.proofs.Diff.{of_pos, sub, same, bound}
use Rattle.position.specs.Rows.{side_of}
use Rattle.position.specs.declared.Record.{Record}
use Rattle.row_pairs.specs.Row.{row_of}

pub seconds_back : (z : ℤ) → mag z < 2 ^ 53 → back w64 z ≡ z
seconds_back z h = to_z-of_z {w = w64} (record { sfits = omega arith })

-- ids are far below the limits of an i64
pub ids_step : (z a : ℕ) → z < 2 ^ 32 → a < 2 ^ 32 → SFits w64 (to_z w64 z -ℤ to_z w64 a) × (back w64 (to_z w64 z -ℤ to_z w64 a) ≡ sub_ℕ z a)
ids_step z a hz ha = step difference (record { sfits = bound z a 9223372036854775808 (omega arith) (omega arith) })
  where
    difference : to_z w64 z -ℤ to_z w64 a ≡ sub_ℕ z a
    difference =
        ap₂ ◌-ℤ◌ (to_z_pos w64 z (omega arith) ∙ of_pos z) (to_z_pos w64 a (omega arith) ∙ of_pos a)
        ∙ sub z 0 a 0
        ∙ same (z + 0) (0 + a) z a (omega arith)

pub row_is : (a z : Record) (symbol mark sequence : ℕ) (side : Side) (opened closed : LocalTime) (ids : ℤ) (days : Float) (bp : Yield)
    → side ≡ side_of a
    → opened ≡ local_of a.bar.time
    → closed ≡ local_of z.bar.time
    → ids ≡ sub_ℕ z.bar.id a.bar.id
    → days ≡ days_of (seconds_between a.bar.time.instant.0 z.bar.time.instant.0)
    → bp ≡ pair_yield side a.bar.price z.bar.price
    → record {
      side = side;
      opened = opened;
      closed = closed;
      from = a.bar.price;
      to = z.bar.price;
      ids = ids;
      days = days;
      bp = bp;
      symbol = symbol;
      mark = mark;
      sequence = sequence;
      lots = a.lots;
    } ≡ row_of a z symbol mark sequence
unfolding row_of
row_is a z symbol mark sequence side opened closed ids days bp s o l i d y = rw (y, s, o, l, i, d)
