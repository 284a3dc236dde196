-- A tag, and as many fields as it asks for. Assumes nothing.
use mathlib.Core.Path.{◌≡◌, ◌∙◌, sym, ap, subst}
use native.Mathlib.Omega.{arith}
use Rattle.std.specs.Prelude.{None, Some, Err, ok_or}
use Rattle.std.proofs.lemmas.Result.{err_from_is_err_and}
use Rattle.run_input.specs.declared.InputError.TheVariants.{BadNumber}
use Rattle.text.proofs.Cut.{cut-rest}
use Rattle.run_input.specs.Lines.{BarAs, LineAs}
use Rattle.run_input.proofs.Tags.{line-count, behind_tag, line-bar, line-signal, line-more, line_other}
use Rattle.run_input.proofs.read_line.Goals as goal
use Rattle.run_input.proofs.read_line.Goals.{else-part_eq-2-via-then-part_eq-2+else-fields-eq3, else-part_eq-2-via-else-part_eq-2}

pub returns-then-fields-ne5 : goal.returns-then-fields-ne5
returns-then-fields-ne5 c =
    line-count c.requires c.find-tag.ensures (sym c.part_eq.ensures ∙ c.if-part_eq.true) (λ e. c.if-fields-ne5.true (c.count_parts-fields.ensures ∙ e))

pub read_bar-requires : goal.read_bar-requires
read_bar-requires c =
    let f = behind_tag c.requires c.find-tag.ensures (sym c.part_eq.ensures ∙ c.if-part_eq.true) (sym c.count_parts-fields.ensures ∙ c.if-fields-ne5.false) in
    record { part = cut-rest f; s_len = f.left }

pub returns-in_err-bar : goal.returns-in_err-bar
returns-in_err-bar c =
    let none : c.read_bar.result ≡ None = grind arith in
    let refused : c.ok_or.result ≡ Err BadNumber = c.ok_or.ensures.value ∙ ap (λ o. ok_or o BadNumber) none in
    let p = err_from_is_err_and c.from_residual.result c.from_residual.ensures.1 in
    let number : c.from_residual.result ≡ Err BadNumber = grind arith in
    subst (LineAs _) (sym number)
    (line-bar c.requires c.find-tag.ensures (sym c.part_eq.ensures ∙ c.if-part_eq.true) (sym c.count_parts-fields.ensures ∙ c.if-fields-ne5.false)
    (subst (BarAs _) none c.read_bar.ensures))

pub returns-then-part_eq : goal.returns-then-part_eq
returns-then-part_eq c =
    let read : c.read_bar.result ≡ Some c.in_ok-bar.bar = grind arith in
    line-bar c.requires c.find-tag.ensures (sym c.part_eq.ensures ∙ c.if-part_eq.true) (sym c.count_parts-fields.ensures ∙ c.if-fields-ne5.false)
    (subst (BarAs _) read c.read_bar.ensures)

pub returns-then-fields-eq3 : goal.returns-then-fields-eq3
returns-then-fields-eq3 c =
    line-signal c.requires c.find-tag.ensures (sym c.part_eq.ensures ∙ c.if-part_eq.false)
    (sym c.part_eq-2.ensures ∙ c.if-part_eq-2.true) (sym c.count_parts-fields.ensures ∙ c.if-fields-eq3.true)

pub returns : goal.returns
returns c =
    let no-b = sym c.part_eq.ensures ∙ c.if-part_eq.false in
    elim c.else-part_eq-2.branch [
      | else-part_eq-2-via-then-part_eq-2+else-fields-eq3 w ↦
          line-more c.requires c.find-tag.ensures no-b (sym c.part_eq-2.ensures ∙ w.if-part_eq-2.true) (λ e. w.if-fields-eq3.false (c.count_parts-fields.ensures ∙ e))
      | else-part_eq-2-via-else-part_eq-2 w ↦ line_other c.requires c.find-tag.ensures no-b (sym c.part_eq-2.ensures ∙ w.if-part_eq-2.false)
    ]
