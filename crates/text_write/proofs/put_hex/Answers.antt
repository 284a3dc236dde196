-- `text_write::put_hex` meets its contract: `Hexed`, the digits that stand and those to come, is the invariant. Assumes nothing.
use Rattle.text_write.proofs.Written.{hexed_first, hexed_more, hexed_last}
use Rattle.text_write.proofs.put_hex.Goals as goal

pub loop-k-init : goal.loop-k-init
loop-k-init c = hexed_first _ _ _ c.requires

pub loop-k-preserved : goal.loop-k-preserved
loop-k-preserved c = hexed_more c.loop-k.invariant _ c.hex_digit.ensures c.loop-k-test.true

pub returns : goal.returns
returns c = hexed_last c.loop-k.invariant c.loop-k-test.false
