-- A score that is not reached, and each of the three values. Assumes nothing.
use mathlib.Core.Bool.{false≢true}
use mathlib.Core.Path.{◌∙◌, ap, sym}
use Rattle.std.specs.Prelude.{Some}
use Rattle.std.proofs.Common.{rules, FitsSigned, w32}
use Rattle.std.proofs.lemmas.Int.{to_z-of_z}
use Rattle.table_match.specs.First.{reached}
use Rattle.table_match.proofs.Clauses.{met_is, first_fails, second_fails, third_fails, last_decides}
use Rattle.table_match.proofs.meets.Goals as goal
use Rattle.table_match.proofs.meets.Goals.{then-reaches, else-reaches, then-agrees, else-agrees}

pub returns-then-agrees-2 : goal.returns-then-agrees-2
returns-then-agrees-2 c =
    let fits : FitsSigned w32 c.in-Some.a.score = search rules in
    let score = c.reaches.ensures ∙ ap (λ z. reached c.args.c.score (Some z)) (to_z-of_z w32 c.in-Some.a.score fits) in
    let met = met_is c.args.t.now c.args.v.now c.args.c c.in-Some.a c.in-Some.ensures in
    elim c.if-agrees.branch [
      | then-agrees w ↦ elim c.if-reaches.branch [
        | then-reaches u ↦
            c.agrees-then-agrees-2.ensures
            ∙ sym (last_decides _ _ _ _ met (sym score ∙ u.if-reaches.true) (sym u.agrees.ensures ∙ sym u.value-is ∙ w.if-agrees.true) (sym w.agrees-then-agrees.ensures ∙ sym w.value-is ∙ c.if-agrees-2.true))
        | else-reaches u ↦ absurd (false≢true (cc))
      ]
      | else-agrees w ↦ absurd (false≢true (cc))
    ]

pub returns-else-agrees-2 : goal.returns-else-agrees-2
returns-else-agrees-2 c =
    let fits : FitsSigned w32 c.in-Some.a.score = search rules in
    let score = c.reaches.ensures ∙ ap (λ z. reached c.args.c.score (Some z)) (to_z-of_z w32 c.in-Some.a.score fits) in
    let met = met_is c.args.t.now c.args.v.now c.args.c c.in-Some.a c.in-Some.ensures in
    c.if-agrees-2.false ∙ sym (
    elim c.if-reaches.branch [
      | else-reaches u ↦ first_fails _ _ _ _ met (sym score ∙ u.if-reaches.false)
      | then-reaches u ↦ elim c.if-agrees.branch [
        | else-agrees w ↦ second_fails _ _ _ _ met (sym score ∙ u.if-reaches.true) (sym u.agrees.ensures ∙ sym u.value-is ∙ w.if-agrees.false)
        | then-agrees w ↦
            third_fails _ _ _ _ met (sym score ∙ u.if-reaches.true) (sym u.agrees.ensures ∙ sym u.value-is ∙ w.if-agrees.true) (sym w.agrees-then-agrees.ensures ∙ sym w.value-is ∙ c.if-agrees-2.false)
      ]
    ]
    )
