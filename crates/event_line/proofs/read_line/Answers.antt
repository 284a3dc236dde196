-- The `|`, the LF behind it, and no other end of a field before them. Assumes nothing.
use Rattle.event_line.proofs.Fields.{mid_cut, mid_line, end-cut, end-bar, end_line}
use Rattle.event_line.proofs.read_line.Goals as goal
use Rattle.event_line.proofs.read_line.Goals.{then-mid-n-via-then-mid-n, then-mid-n-via-else-mid-n+then-s-mid-eq-LF, then-end-n-via-then-end-n, then-end-n-via-else-end-n+then-s-end-ne-LF}

pub returns-then-mid-n : goal.returns-then-mid-n
returns-then-mid-n c =
    let f = c.field_end-mid.ensures in
    elim c.then-mid-n.branch [
      | then-mid-n-via-then-mid-n w ↦ mid_cut c.requires f w.if-mid-n.true
      | then-mid-n-via-else-mid-n+then-s-mid-eq-LF w ↦ mid_line c.requires f w.if-mid-n.false w.if-s-mid-eq-LF.true
    ]

pub returns-then-end-n : goal.returns-then-end-n
returns-then-end-n c =
    let f = c.field_end-mid.ensures in
    let g = c.field_end-end.ensures in
    elim c.then-end-n.branch [
      | then-end-n-via-then-end-n w ↦ end-cut c.requires f c.if-mid-n.false c.if-s-mid-eq-LF.false g w.if-end-n.true
      | then-end-n-via-else-end-n+then-s-end-ne-LF w ↦ end-bar c.requires f c.if-mid-n.false c.if-s-mid-eq-LF.false g w.if-end-n.false w.if-s-end-ne-LF.true
    ]

pub returns : goal.returns
returns c =
    end_line c.requires c.field_end-mid.ensures c.if-mid-n.false c.if-s-mid-eq-LF.false c.field_end-end.ensures c.if-end-n.false c.if-s-end-ne-LF.false
