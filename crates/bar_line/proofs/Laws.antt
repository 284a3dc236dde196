-- A line's instant as a difference, and that its wall clock then shows what the line says. Assumes nothing.
use Prim.Native.Nat.{ℕ, ◌+◌, ◌*◌}
use native.Mathlib.Omega.{arith}
use mathlib.Core.Path.{◌≡◌, sym, ap, ap₂, ◌∙◌}
use lib.IntN.{ℤ, pos, ◌+ℤ◌, ◌-ℤ◌, ◌*ℤ◌}
use Rattle.le.proofs.Diff.{D, up, down, parts, of_pos, add, sub, mul, same}
use Rattle.bar.specs.Time.{local_time}
use Rattle.bar_line.specs.Line.{instant_at}

module _ (seconds : ℕ) where
  -- for an offset that is a difference
  pub instant_apart : (a b : ℕ) → instant_at seconds (D a b) ≡ D ((seconds + b) * 1_000_000) (a * 1_000_000)
  unfolding instant_at
  instant_apart a b =
      ap (λ (z : ℤ). (z -ℤ D a b) *ℤ pos 1_000_000) (of_pos seconds)
      ∙ ap (λ (z : ℤ). z *ℤ pos 1_000_000) (sub seconds 0 a b ∙ same (seconds + b) (0 + a) (seconds + b) a (omega arith))
      ∙ mul (seconds + b) a 1_000_000

  clock_apart : (a b : ℕ) → local_time (instant_at seconds (D a b)) (D a b) ≡ pos (seconds * 1_000_000)
  unfolding local_time
  clock_apart a b =
      ap₂ ◌+ℤ◌ (instant_apart a b) (mul a b 1_000_000)
      ∙ add ((seconds + b) * 1_000_000) (a * 1_000_000) (a * 1_000_000) (b * 1_000_000)
      ∙ same ((seconds + b) * 1_000_000 + a * 1_000_000) (a * 1_000_000 + b * 1_000_000) (seconds * 1_000_000) 0 (omega arith)
      ∙ sym (of_pos (seconds * 1_000_000))

  pub wall_clock : (offset : ℤ) → local_time (instant_at seconds offset) offset ≡ pos (seconds * 1_000_000)
  wall_clock offset = ap (λ (z : ℤ). local_time (instant_at seconds z) z) (parts offset) ∙ clock_apart (up offset) (down offset)
