-- What the private functions of `position_machine` promise. Assumes nothing.
use Rattle.std.specs.Prelude.{ℕ, cond, [], eqb, Option, None, Some}
use Rattle.position.specs.declared.Description.{Description}
use Rattle.position.specs.declared.LastEvent.{LastEvent}
use Rattle.double.specs.declared.Side.{Side}
use Rattle.bar.specs.declared.Bar.{Bar}
use Rattle.sheet.specs.Sheet.{Sheet}
use Rattle.position.specs.Step.{Going, close_of, stopped, timed_out}
use Rattle.position.specs.declared.Choice.{Choice}
use Rattle.position.specs.declared.Head.{Head}
use Rattle.position.specs.declared.Description.TheVariants.{Event as ByEvent, Stop, Timeout}

-- a bar on its way that has written nothing, with the lots of the position
abbrev pub silent : Head → ℕ → Going
silent h lots = record { head = h; lots = lots; wrote = [] }

-- what closes the side, if anything: "the first of operate LE (event name), .. (stop), .. (timeout)"
abbrev pub exit_of : Sheet → Bar → Choice → Side → Option LastEvent → Option Description
exit_of s b c side None = None
exit_of s b c side (Some r) =
    cond (eqb c.operate (close_of side)) (Some (ByEvent c.event)) (cond (stopped s side b r) (Some Stop) (cond (timed_out s b r) (Some Timeout) None))
