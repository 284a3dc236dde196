-- The bits are 16 digits. Assumes nothing.
use Rattle.run_fields.proofs.Short.{hex_short}
use Rattle.run_fields.proofs.put_real.Goals as goal

pub returns : goal.returns
returns c = hex_short _ c.put_hex.ensures
