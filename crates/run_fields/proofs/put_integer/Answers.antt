-- The magnitude in decimal, behind a `-` where the number is below 0. Assumes nothing.
use Prim.Native.Nat.{◌^◌, ◌<◌}
use native.Mathlib.Omega.{arith}
use Rattle.run_fields.proofs.Signed.{below_put, above_put}
use Rattle.run_fields.proofs.put_integer.Goals as goal
use Rattle.run_fields.proofs.put_integer.Goals.{then-v-lt0, else-v-lt0}

pub returns : goal.returns
returns c =
    let few : c.unsigned_abs.result < 2 ^ 64 = omega (arith, c.unsigned_abs.ensures.bound) in
    elim c.if-v-lt0.branch [
      | then-v-lt0 w ↦
          below_put c.args.v c.ranges.v few c.unsigned_abs.ensures.value w.if-v-lt0.true w.put_byte-digits.ensures (rw (w.digits-is, w.out-is) at c.put_decimal.ensures)
      | else-v-lt0 w ↦ above_put c.args.v c.ranges.v few c.unsigned_abs.ensures.value w.if-v-lt0.false (rw (w.digits-is, w.out-is) at c.put_decimal.ensures)
    ]
