-- As many fields as the line may have, in a place where it may stand; an operate and a name end at the first separators. Assumes nothing.
use mathlib.Core.Path.{◌∙◌, sym}
use Rattle.sheet_event.specs.Line.{kind_number}
use Rattle.sheet_event.proofs.EventLine.{wrong_count, misplaced, rest, told}
use Rattle.sheet_event.proofs.event_line.Goals as goal
use Rattle.sheet_event.proofs.event_line.Goals.{then-not-fields_fit-via-then-not-fields_fit, then-not-fields_fit-via-else-not-fields_fit+then-not-in_place}

pub returns-then-not-fields_fit : goal.returns-then-not-fields_fit
returns-then-not-fields_fit c =
    let a = c.args in
    let n = c.count_parts.ensures in
    let t = c.fields_fit.ensures in
    elim c.then-not-fields_fit.branch [
      | then-not-fields_fit-via-then-not-fields_fit w ↦ wrong_count c.requires.part (kind_number a.kind) a.a a.events.now n t w.if-not-fields_fit.true
      | then-not-fields_fit-via-else-not-fields_fit+then-not-in_place w ↦
          misplaced c.requires.part (kind_number a.kind) a.a a.events.now n t w.if-not-fields_fit.false (sym (rw w.number.ensures at w.in_place.ensures) ∙ w.if-not-in_place.true)
    ]

pub find-c-requires : goal.find-c-requires
find-c-requires c =
    rest c.requires.part (kind_number c.args.kind) c.args.a c.args.events.now c.count_parts.ensures c.fields_fit.ensures c.if-not-fields_fit.false c.find-b.ensures

pub told_line-requires-clause-told : goal.told_line-requires-clause-told
told_line-requires-clause-told c =
    told c.requires.part (kind_number c.args.kind) c.args.a c.args.events.now c.count_parts.ensures c.fields_fit.ensures c.if-not-fields_fit.false c.find-b.ensures
    c.find-c.ensures (sym (rw c.number.ensures at c.in_place.ensures) ∙ c.if-not-in_place.false)
