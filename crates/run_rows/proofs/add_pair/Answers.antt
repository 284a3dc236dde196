-- The row that a request answers, printed in a lent part. Assumes nothing.
use native.Mathlib.Omega.{arith}
use mathlib.Core.Path.{refl, sym, ◌∙◌}
use Rattle.run_output.specs.Shown.{pair_room}
use Rattle.run_rows.proofs.Lent.{lent_room}
use Rattle.run_rows.proofs.One.{no_pair, pair_ready, pair_printed}
use Rattle.run_rows.proofs.add_pair.Goals as goal

pub returns-in_err-p : goal.returns-in_err-p
returns-in_err-p c =
    rw c.from_residual.ensures
    (no_pair c.args.i c.requires.booked c.requires.i_le_run_bars refl c.pair_row.ensures (sym c.ok.ensures.value ∙ c.in_err-p.was), refl)

pub put_pair-n-requires : goal.put_pair-n-requires
put_pair-n-requires c =
    let r = c.pair_row in
    record { pair_room_in_bounds = lent_room c.args.out.now c.args.at pair_room c.requires.pair_room_in_bounds; pair_shown = pair_ready c.args.i c.requires.booked c.requires.i_le_run_bars refl r.ensures c.in_ok-p.p (sym c.ok.ensures.value ∙ c.in_ok-p.was) r.auto.buffer }

pub returns : goal.returns
returns c =
    pair_printed c.args.i c.requires.booked c.requires.i_le_run_bars refl c.pair_row.ensures c.in_ok-p.p (sym c.ok.ensures.value ∙ c.in_ok-p.was) c.args.out.now c.args.at _ _ c.requires.pair_room_in_bounds c.put_pair-n.ensures

pub overflow_add-result : goal.overflow_add-result
overflow_add-result c = omega (arith, (returns c).2.short, c.requires.pair_room_in_bounds)
