-- Texts with other fingerprints or other ends differ, and else their bytes decide. Assumes nothing.
use mathlib.Core.Path.{sym, ◌∙◌}
use lib.Seq.{slice}
use Rattle.event_find.proofs.Prints.{other-print, whole-key}
use Rattle.event_find.proofs.is_key.Goals as goal
use Rattle.event_find.proofs.is_key.Goals.{then-h-p, else-h-p}

pub returns-then-ends_alike : goal.returns-then-ends_alike
returns-then-ends_alike c = whole-key c.args.key.now _ c.part_eq.ensures

pub returns-else-ends_alike : goal.returns-else-ends_alike
returns-else-ends_alike c =
    let n = c.if-ends_alike.false in
    let h = c.requires.h_value in
    n ∙ elim c.if-h-p.branch [
      | then-h-p w ↦ sym (w.ends_alike.ensures (sym w.value-is ∙ n))
      | else-h-p w ↦ other-print c.args.key.now (slice c.args.from c.args.to c.args.s.now) h.0 h.1 w.if-h-p.false
    ]
