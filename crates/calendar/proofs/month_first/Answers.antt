-- `calendar::month_first` meets its contract: up to February, and from March on. Assumes nothing.
use Rattle.calendar.proofs.Forms.{early, late}
use Rattle.calendar.proofs.month_first.Goals as goal

pub returns-then-m-le2 : goal.returns-then-m-le2
returns-then-m-le2 c = early c.requires c.if-m-le2.true

pub returns-else-m-le2 : goal.returns-else-m-le2
returns-else-m-le2 c = late c.requires c.if-m-le2.false
