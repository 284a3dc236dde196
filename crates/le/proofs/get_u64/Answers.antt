-- `le::get_u64` meets its contract. Assumes nothing.
use native.Mathlib.Omega.{arith}
use Rattle.le.proofs.Laws.{read-bytes}
use Rattle.le.proofs.get_u64.Goals as goal

pub returns : goal.returns
returns c = omega (arith, c.from_le_bytes.ensures, read-bytes c.args.s.now c.args.at 7 c.requires)
