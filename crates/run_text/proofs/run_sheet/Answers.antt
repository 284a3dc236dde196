-- The input's refusals in order, then its bars. Assumes nothing.
use native.Mathlib.Omega.{arith}
use mathlib.Core.Path.{◌≡◌, refl, sym, ap, subst, ◌∙◌}
use lib.Seq.{length-take-le}
use Rattle.std.specs.Prelude.{None, Some, Err, ok_or}
use Rattle.std.proofs.lemmas.Result.{err_from_is_err_and}
use Rattle.run_input.specs.Lines.{input_refusal, CutAs}
use Rattle.run_input.specs.declared.InputError.TheVariants.{Malformed}
use Rattle.run_bars.specs.Steps.{RanAs}
use Rattle.run_text.specs.declared.RunError.TheVariants.{Input}
use Rattle.run_text.proofs.Whole.{input-long, input-whole, not_compiled, begun}
use Rattle.run_text.proofs.run_sheet.Goals as goal

pub returns-then-s-gt-INPUT_LIMIT : goal.returns-then-s-gt-INPUT_LIMIT
returns-then-s-gt-INPUT_LIMIT c = input-long c.args.s.now c.if-s-gt-INPUT_LIMIT.true

pub returns-in_err-p : goal.returns-in_err-p
returns-in_err-p c =
    let none : c.find_dash.result ≡ None = grind arith in
    let refused : c.ok_or.result ≡ Err Malformed = c.ok_or.ensures.value ∙ ap (λ o. ok_or o Malformed) none in
    let p = err_from_is_err_and c.from_residual.result c.from_residual.ensures.1 in
    let number : c.from_residual.result ≡ Err (Input Malformed) = grind arith in
    rw number (input-whole c.args.s.now c.if-s-gt-INPUT_LIMIT.false (subst (CutAs c.args.s.now) none c.find_dash.ensures))

pub slice_bounds-compile-end : goal.slice_bounds-compile-end
slice_bounds-compile-end c =
    let found : c.find_dash.result ≡ Some c.in_ok-p.p = grind arith in
    sym (length-take-le c.in_ok-p.p c.args.s.now (omega (arith, (subst (CutAs c.args.s.now) found c.find_dash.ensures).room)))

pub returns-in_err-compile : goal.returns-in_err-compile
returns-in_err-compile c =
    let found : c.find_dash.result ≡ Some c.in_ok-p.p = grind arith in
    let p = err_from_is_err_and c.from_residual-in_err-compile.result c.from_residual-in_err-compile.ensures.1 in
    rw (p.1, p.2)
    (not_compiled c.args.s.now c.if-s-gt-INPUT_LIMIT.false (subst (CutAs c.args.s.now) found c.find_dash.ensures) refl c.compile.ensures _ c.in_err-compile.was)

pub overflow_add-p : goal.overflow_add-p
overflow_add-p c =
    let found : c.find_dash.result ≡ Some c.in_ok-p.p = grind arith in
    omega (arith, (subst (CutAs c.args.s.now) found c.find_dash.ensures).room, c.if-s-gt-INPUT_LIMIT.false)

pub run_bars-requires : goal.run_bars-requires
run_bars-requires c =
    let found : c.find_dash.result ≡ Some c.in_ok-p.p = grind arith in
    begun c.args.s.now c.if-s-gt-INPUT_LIMIT.false (subst (CutAs c.args.s.now) found c.find_dash.ensures) refl c.compile.ensures c.in_ok-compile.was c.args.out.now c.requires.out_value c.requires.output_room_in_bounds

pub returns-in_err-run_bars : goal.returns-in_err-run_bars
returns-in_err-run_bars c =
    let p = err_from_is_err_and c.from_residual-in_err-run_bars.result c.from_residual-in_err-run_bars.ensures.1 in
    rw (p.1, p.2) (subst (RanAs input_refusal c.args.s.now c.args.out.now c.run_bars.new.out) c.in_err-run_bars.was c.run_bars.ensures)

pub returns : goal.returns
returns c = subst (RanAs input_refusal c.args.s.now c.args.out.now c.run_bars.new.out) c.in_ok-run_bars.was c.run_bars.ensures
