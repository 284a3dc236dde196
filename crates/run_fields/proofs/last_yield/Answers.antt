-- The yield and its LF. Assumes nothing.
use Rattle.run_fields.proofs.Lines.{put_last}
use Rattle.run_fields.proofs.last_yield.Goals as goal

pub returns : goal.returns
returns c = put_last _ c.put_yield-end.ensures.put c.put_byte.ensures
