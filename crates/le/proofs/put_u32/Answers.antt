-- `le::put_u32` meets its contract. Assumes nothing.
use mathlib.Core.Path.{◌∙◌}
use Rattle.le.proofs.Laws.{bytes-are, length-le_bytes, copied}
use Rattle.le.proofs.put_u32.Goals as goal

pub returns : goal.returns
returns c =
    let bytes = c.copy_from_slice.ensures.after ∙ c.to_le_bytes.ensures ∙ bytes-are 4 c.args.v in
    copied c.args.s.now _ _ c.args.at 4 bytes (length-le_bytes 4 c.args.v)
