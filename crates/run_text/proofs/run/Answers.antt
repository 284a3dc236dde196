-- What was printed over zeros, or the refusal. Assumes nothing.
use native.Mathlib.Omega.{arith}
use mathlib.Core.Path.{sym, ap, subst, ◌∙◌}
use lib.ListN.{replicate}
use Rattle.text.specs.Answer.{Refused}
use Rattle.run_bars.specs.Steps.{RanAs}
use Rattle.run_text.specs.Refused.{run_refusal}
use Rattle.run_text.proofs.Whole.{over_zeros, printed_refusal}
use Rattle.run_text.proofs.run.Goals as goal

pub run_sheet-requires : goal.run_sheet-requires
run_sheet-requires c = record { out_value = c.clear.ensures ∙ ap (λ n. replicate n 0) (sym c.clear.auto.dst); output_room_in_bounds = omega (arith, c.clear.auto.dst, c.requires) }

pub returns-in-Ok : goal.returns-in-Ok
returns-in-Ok c =
    rw (← c.clear.auto.dst) (subst (RanAs run_refusal c.args.s.now c.clear.new.dst c.run_sheet.new.out) c.in-Ok.is c.run_sheet.ensures)

pub returns-in-Err : goal.returns-in-Err
returns-in-Err c =
    let refused = subst (RanAs run_refusal c.args.s.now c.clear.new.dst c.run_sheet.new.out) c.in-Err.is c.run_sheet.ensures in
    over_zeros _ c.clear-in-Err.ensures c.put_refusal.ensures c.args.s.now (printed_refusal c.args.s.now c.number.result (refused ∙ ap Refused (sym c.number.ensures))) _ (c.run_sheet.auto.out ∙ c.clear.auto.dst)
