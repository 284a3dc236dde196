-- `calendar::day_number` meets its contract: what the day says of its parts, and the number of its month. Assumes nothing.
use Rattle.calendar.proofs.Laws.{Day, day_parts, day_below}
use Rattle.calendar.specs.Calendar.{day_number}
use native.Mathlib.Omega.{arith}
use Rattle.calendar.proofs.day_number.Goals as goal

day : (c : goal.Start) → Day c.args.y c.args.m c.args.d
day c = day_parts c.args.y c.args.m c.args.d c.requires

pub month_first-requires : goal.month_first-requires
month_first-requires c = (day c).month

pub overflow_sub-result : goal.overflow_sub-result
overflow_sub-result c = (day c.before).begun

pub overflow_add-result : goal.overflow_add-result
unfolding day_number
overflow_add-result c = omega (arith, c.month_first.ensures, day_below (day c.before))

pub returns : goal.returns
unfolding day_number
returns c = (omega (arith, c.month_first.ensures), omega (arith, c.month_first.ensures, day_below (day c.before)))
