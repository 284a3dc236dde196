-- One byte stored is a text of one byte written. Assumes nothing.
use Rattle.text.proofs.Put.{put_byte}
use Rattle.text.proofs.put_byte.Goals as goal

pub returns : goal.returns
returns c = put_byte c.args.dst.now c.args.at c.args.b c.requires
