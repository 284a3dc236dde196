-- The state of the plain machine. "State: pos (fresh: Flat), changed (fresh: no), end, last long open, last short open, reference, records, holds."
-- Assumes nothing.
use Rattle.std.specs.Prelude.{ℕ, Bool, true, false, ◌||◌, List, [], eqb, ℤ, pos, negsuc, Option, None, Some}
use Rattle.operate.specs.Operate.{LO, LE, SO, SE}
use Rattle.bar.specs.Bar.{time_ok}
use Rattle.bar.specs.declared.Time.{Time}
use Rattle.position.specs.declared.Pos.{Pos}
use Rattle.position.specs.declared.Pos.TheVariants.{Short, Flat, Long}
use Rattle.position.specs.declared.Head.{Head}
use Rattle.position.specs.declared.Record.{Record}
use Rattle.position.specs.declared.Hold.{Hold}

pub record State : Type 0 where
  pub head : Head
  pub records : List Record
  pub holds : List Hold

-- where there is no time
abbrev pub no_time : Time
no_time = record { instant = record { 0 = pos 0 }; offset = pos 0 }

unfoldable pub fresh_head : Head
fresh_head = record { pos = Flat; changed = false; end = no_time; long = None; short = None; reference = None }

unfoldable pub fresh_state : State
fresh_state = record { head = fresh_head; records = []; holds = [] }

-- a stored open's time is in range
abbrev pub open_in_range : Option Time → Bool
open_in_range None = true
open_in_range (Some t) = time_ok t

-- "(0 Short, 1 Flat, 2 Long)"
abbrev pub pos_code : Pos → ℕ
pos_code Short = 0
pos_code Flat = 1
pos_code Long = 2

-- "-1, 0 or 1"
abbrev pub pos_sign : Pos → ℤ
pos_sign Short = negsuc 0
pos_sign Flat = pos 0
pos_sign Long = pos 1

-- "records LO, LE, SO or SE": the operates that open or close
abbrev pub trades : ℕ → Bool
trades operate = eqb operate LO || eqb operate LE || eqb operate SO || eqb operate SE
