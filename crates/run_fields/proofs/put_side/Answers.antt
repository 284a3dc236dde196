-- One letter. Assumes nothing.
use native.Mathlib.Omega.{arith}
use mathlib.Core.Path.{sym, ap}
use Rattle.text.specs.Literal.{bytes, encoded}
use Rattle.position.specs.Run.{side_text}
use Rattle.run_fields.proofs.Short.{short_as, short-put}
use Rattle.run_fields.proofs.put_side.Goals as goal
use Rattle.run_fields.proofs.put_side.Goals.{in-Long, in-Short}

pub returns : goal.returns
unfolding bytes encoded
returns c =
    elim c.match-side.branch [
      | in-Long w ↦ short_as (sym (ap side_text w.in-Long.is)) (short-put 1 (rw w.letter-is at c.put_byte.ensures) (omega arith))
      | in-Short w ↦ short_as (sym (ap side_text w.in-Short.is)) (short-put 1 (rw w.letter-is at c.put_byte.ensures) (omega arith))
    ]
