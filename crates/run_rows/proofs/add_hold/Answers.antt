-- The row that a request answers, printed in a lent part. Assumes nothing.
use mathlib.Core.Path.{refl, sym, ◌∙◌}
use Rattle.run_output.specs.Shown.{hold_room}
use Rattle.run_rows.proofs.Lent.{lent_room}
use Rattle.run_rows.proofs.One.{no_hold, hold_ready, hold_printed}
use Rattle.run_rows.proofs.add_hold.Goals as goal

pub returns-in_err-o : goal.returns-in_err-o
returns-in_err-o c =
    rw c.from_residual.ensures
    (no_hold c.requires.booked c.args.i c.hold_row.result c.requires.i_le_run_bars c.hold_row.ensures (sym c.ok.ensures.value ∙ c.in_err-o.was), refl)

pub put_hold-n-requires : goal.put_hold-n-requires
put_hold-n-requires c = record { hold_room_in_bounds = lent_room c.args.out.now c.args.at hold_room c.requires.hold_room_in_bounds; hold_shown = hold_ready c.requires.booked c.args.i _ c.requires.i_le_run_bars c.hold_row.ensures c.in_ok-o.o (sym c.ok.ensures.value ∙ c.in_ok-o.was) }

pub returns : goal.returns
returns c =
    hold_printed c.requires.booked c.args.i _ c.requires.i_le_run_bars c.hold_row.ensures c.in_ok-o.o (sym c.ok.ensures.value ∙ c.in_ok-o.was) c.args.out.now c.args.at _ _ c.requires.hold_room_in_bounds c.put_hold-n.ensures
