-- `text_number::read_i32` meets its contract: one law for each first byte. Assumes nothing.
use native.Mathlib.Omega.{arith}
use mathlib.Core.Path.{ap, ◌∙◌, sym}
use Rattle.std.specs.Prelude.{Some}
use Rattle.std.proofs.Common.{rules, FitsSigned, w32, to_z, of_z}
use Rattle.std.proofs.lemmas.Int.{to_z-of_z}
use Rattle.text.specs.Number.{plus, negated}
use Rattle.text_number.proofs.Digits.{i32-none, i32-plus, i32_minus, i32-digits}
use Rattle.text_number.proofs.read_i32.Goals as goal

pub returns-then-from-to : goal.returns-then-from-to
returns-then-from-to c = i32-none c.requires c.if-from-to.true

pub returns-in_err-magnitude : goal.returns-in_err-magnitude
returns-in_err-magnitude c =
    c.from_residual.ensures ∙ ap negated (sym c.in_err-magnitude.was ∙ c.magnitude.ensures) ∙ i32_minus c.requires c.if-from-to.false c.if-b-eq45.true

pub returns-then-b-eq45 : goal.returns-then-b-eq45
returns-then-b-eq45 c =
    let fits : FitsSigned w32 c.negative.result = search rules in
    ap Some (to_z-of_z w32 c.negative.result fits) ∙ ap Some c.negative.ensures ∙ ap negated (sym c.in_ok-magnitude.was ∙ c.magnitude.ensures) ∙ i32_minus c.requires c.if-from-to.false c.if-b-eq45.true

pub returns-in_err-magnitude-2 : goal.returns-in_err-magnitude-2
returns-in_err-magnitude-2 c =
    c.from_residual-in_err-magnitude-2.ensures ∙ ap plus (sym c.in_err-magnitude-2.was ∙ c.magnitude-then-b-eq43.ensures)
    ∙ i32-plus c.requires c.if-from-to.false c.if-b-eq43.true

pub returns-then-b-eq43 : goal.returns-then-b-eq43
returns-then-b-eq43 c =
    let fits : FitsSigned w32 c.positive.result = search rules in
    ap Some (to_z-of_z w32 c.positive.result fits) ∙ ap Some c.positive.ensures ∙ ap plus (sym c.in_ok-magnitude-2.was ∙ c.magnitude-then-b-eq43.ensures) ∙ i32-plus c.requires c.if-from-to.false c.if-b-eq43.true

pub returns-in_err-magnitude-3 : goal.returns-in_err-magnitude-3
returns-in_err-magnitude-3 c =
    c.from_residual-in_err-magnitude-3.ensures ∙ ap plus (sym c.in_err-magnitude-3.was ∙ c.magnitude-2.ensures)
    ∙ i32-digits c.requires c.if-from-to.false c.if-b-eq45.false c.if-b-eq43.false

pub returns : goal.returns
returns c =
    let fits : FitsSigned w32 c.positive-2.result = search rules in
    ap Some (to_z-of_z w32 c.positive-2.result fits) ∙ ap Some c.positive-2.ensures ∙ ap plus (sym c.in_ok-magnitude-3.was ∙ c.magnitude-2.ensures)
    ∙ i32-digits c.requires c.if-from-to.false c.if-b-eq45.false c.if-b-eq43.false
