-- The bits and their `|`. Assumes nothing.
use Rattle.run_fields.proofs.Short.{short_field}
use Rattle.run_fields.proofs.real_field.Goals as goal

pub returns : goal.returns
returns c = short_field c.put_real-end.ensures c.put_byte.ensures
