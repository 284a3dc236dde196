-- The yield and its `|`. Assumes nothing.
use Rattle.run_fields.proofs.Short.{short_field}
use Rattle.run_fields.proofs.yield_field.Goals as goal

pub returns : goal.returns
returns c = short_field c.put_yield-end.ensures c.put_byte.ensures
