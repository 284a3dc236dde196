-- What the step's values mean, and what it asks of them. Assumes nothing.
use Rattle.std.specs.Prelude.{◌≡◌, true, List, [], ◌∷◌, eqb, Option, None, Some}
use Rattle.bar.specs.Bar.{time_ok}
use Rattle.bar.specs.declared.Bar.{Bar}
use Rattle.sheet.specs.Sheet.{Sheet}
use Rattle.table.specs.declared.Settings.{Settings}
use Rattle.position.specs.State.{open_in_range}
use Rattle.position.specs.Step.{Going}
use Rattle.position.specs.declared.Head.{Head}
use Rattle.position.specs.declared.Record.{Record}
use Rattle.position_machine.specs.declared.Update.{Update}

-- steps 2 to 6 read a sheet's settings alone: a sheet of these, without texts and events
abbrev pub of_settings : Settings → Sheet
of_settings k = record { name = []; symbol = []; interval = k.interval; timeout = k.timeout; stop = k.stop; t0 = eqb k.t0 1; evening = k.evening; events = [] }

abbrev pub wrote_of : Option Record → List Record
wrote_of None = []
wrote_of (Some r) = r ∷ []

-- a bar that went through all steps
abbrev pub going_of : Update → Going
going_of u = record { head = u.head; lots = u.lots; wrote = wrote_of u.wrote }

-- the times that a step reads are in range
pub record TimesOk (b : Bar) (h : Head) : Type 0 where
  pub bar : time_ok b.time ≡ true
  pub long : open_in_range h.long ≡ true
  pub short : open_in_range h.short ≡ true
