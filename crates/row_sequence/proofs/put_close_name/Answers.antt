-- The Chinese name of SE or of LE. Assumes nothing.
use Rattle.row_sequence.proofs.Closings.{close_short, close_long}
use Rattle.row_sequence.proofs.put_close_name.Goals as goal
use Rattle.row_sequence.proofs.put_close_name.Goals.{then-operate-eq-SE, else-operate-eq-SE}

pub returns : goal.returns
returns c =
    elim c.if-operate-eq-SE.branch [
      | then-operate-eq-SE w ↦ close_short w.if-operate-eq-SE.true (rw w.code-is at c.to_chinese.ensures) c.put_part.ensures
      | else-operate-eq-SE w ↦ close_long w.if-operate-eq-SE.false (rw w.code-is at c.to_chinese.ensures) c.put_part.ensures
    ]
