-- `text::put_part` meets its contract: a copy to a lent part is a patch of the whole. Assumes nothing.
use Rattle.text.proofs.Put.{put_copy}
use Rattle.text.proofs.put_part.Goals as goal

pub returns : goal.returns
returns c = put_copy c.requires.part c.args.dst.now _ c.args.at c.requires.from_in_bounds c.copy_from_slice.ensures.after
