-- One digit. Assumes nothing.
use native.Mathlib.Omega.{arith}
use mathlib.Core.Path.{sym, ap}
use Rattle.text.specs.Literal.{bytes, encoded}
use Rattle.position.specs.Run.{flag_text}
use Rattle.run_fields.proofs.Short.{short_as, short-put}
use Rattle.run_fields.proofs.put_flag.Goals as goal
use Rattle.run_fields.proofs.put_flag.Goals.{then-t, else-t}

pub returns : goal.returns
unfolding bytes encoded
returns c =
    elim c.if-t.branch [
      | then-t w ↦ short_as (sym (ap flag_text w.if-t.true)) (short-put 1 (rw w.put_byte-is at c.put_byte.ensures) (omega arith))
      | else-t w ↦ short_as (sym (ap flag_text w.if-t.false)) (short-put 1 (rw w.put_byte-is at c.put_byte.ensures) (omega arith))
    ]
