-- Four fields of the bar, then its revision. Assumes nothing.
use native.Mathlib.Omega.{arith}
use mathlib.Core.Path.{◌≡◌, ◌∙◌, ap, subst}
use Rattle.std.specs.Prelude.{None, Some, Err, ok_or}
use Rattle.std.proofs.lemmas.Result.{err_from_is_err_and}
use Rattle.run_input.specs.Lines.{BarAs}
use Rattle.revise_first.specs.First.{RevisionAs}
use Rattle.revise_first.specs.declared.FirstError.TheVariants.{BadNumber}
use Rattle.revise_first.proofs.Fields.{fields-bar, fields-revision, fields_read}
use Rattle.revise_first.proofs.read_fields.Goals as goal

pub returns-in_err-b : goal.returns-in_err-b
returns-in_err-b c =
    let none : c.read_bar.result ≡ None = grind arith in
    let refused : c.ok_or.result ≡ Err BadNumber = c.ok_or.ensures.value ∙ ap (λ o. ok_or o BadNumber) none in
    let p = err_from_is_err_and c.from_residual.result c.from_residual.ensures.1 in
    let number : c.from_residual.result ≡ Err BadNumber = grind arith in
    rw number (fields-bar c.requires.s_len c.last_pipe-last.ensures (subst (BarAs _) none c.read_bar.ensures))

pub returns-in_err-revision : goal.returns-in_err-revision
returns-in_err-revision c =
    let bar : c.read_bar.result ≡ Some c.in_ok-b.b = grind arith in
    let none : c.read_revision.result ≡ None = grind arith in
    let refused : c.ok_or-2.result ≡ Err BadNumber = c.ok_or-2.ensures.value ∙ ap (λ o. ok_or o BadNumber) none in
    let p = err_from_is_err_and c.from_residual-in_err-revision.result c.from_residual-in_err-revision.ensures.1 in
    let number : c.from_residual-in_err-revision.result ≡ Err BadNumber = grind arith in
    rw number
    (fields-revision c.requires.s_len c.last_pipe-last.ensures (subst (BarAs _) bar c.read_bar.ensures)
    (subst (RevisionAs _) none c.read_revision.ensures))

pub returns : goal.returns
returns c =
    let bar : c.read_bar.result ≡ Some c.in_ok-b.b = grind arith in
    let revision : c.read_revision.result ≡ Some c.in_ok-revision.revision = grind arith in
    fields_read c.requires.s_len c.last_pipe-last.ensures (subst (BarAs _) bar c.read_bar.ensures)
    (subst (RevisionAs _) revision c.read_revision.ensures) c.in_range.ensures
