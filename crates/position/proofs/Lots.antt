-- The cases of lots hold: each is computed from the definitions. Assumes nothing.
use mathlib.Core.Path.{refl}
use Rattle.position.specs.Cases.{lines, state_after}
use Rattle.position.specs.Lots.{LotsRight, AllLots, lots_cases}
use Rattle.position.specs.Lots as Lots
use Rattle.position.proofs.Opened.{opened}

closed : LotsRight Lots.closed
unfolding opened lines state_after
closed = ((refl, refl), refl, refl)

second : LotsRight Lots.second
unfolding opened lines state_after
second = ((refl, refl), refl, refl)

reversed : LotsRight Lots.reversed
unfolding opened lines state_after
reversed = ((refl, refl), refl, refl)

forbidden : LotsRight Lots.forbidden
unfolding opened lines state_after
forbidden = ((refl, refl), refl, refl)

stopped : LotsRight Lots.stopped
unfolding opened lines state_after
stopped = ((refl, refl), refl, refl)

exit-opens : LotsRight Lots.exit-opens
unfolding opened lines state_after
exit-opens = ((refl, refl), refl, refl)

refused : LotsRight Lots.refused
unfolding opened lines state_after
refused = ((refl, refl), refl, refl)

pub lots-right : AllLots lots_cases
unfolding lots_cases
lots-right = (closed, (second, (reversed, (forbidden, (stopped, (exit-opens, (refused, tt)))))))
