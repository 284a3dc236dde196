-- `le::put_u16` meets its contract. Assumes nothing.
use mathlib.Core.Path.{◌∙◌}
use Rattle.le.proofs.Laws.{bytes-are, length-le_bytes, copied}
use Rattle.le.proofs.put_u16.Goals as goal

pub returns : goal.returns
returns c =
    let bytes = c.copy_from_slice.ensures.after ∙ c.to_le_bytes.ensures ∙ bytes-are 2 c.args.v in
    copied c.args.s.now _ _ c.args.at 2 bytes (length-le_bytes 2 c.args.v)
