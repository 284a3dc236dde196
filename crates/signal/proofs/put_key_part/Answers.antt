-- Nothing, the part, or an underscore and the part. Assumes nothing.
use mathlib.Core.Path.{sym, ◌∙◌}
use native.Mathlib.Omega.{arith}
use Rattle.signal.proofs.Keys.{key_wild, key-next, key-first}
use Rattle.signal.proofs.put_key_part.Goals as goal
use Rattle.signal.proofs.put_key_part.Goals.{then-end, else-end}

pub returns-then-is_wild : goal.returns-then-is_wild
returns-then-is_wild c =
    key_wild c.requires.part c.args.end c.args.dst.now (omega arith) (sym c.is_wild.ensures ∙ c.if-is_wild.true)

pub returns : goal.returns
returns c =
    let wild = sym c.is_wild.ensures ∙ c.if-is_wild.false in
    elim c.if-end.branch [
      | then-end w ↦ key-next c.requires.part c.args.end wild w.if-end.true w.put_byte-start.ensures (rw (w.dst-is, w.start-is) at c.put_part-at.ensures)
      | else-end w ↦ key-first c.requires.part c.args.end wild w.if-end.false (rw (w.dst-is, w.start-is) at c.put_part-at.ensures)
    ]
