-- `book_entry::record_at` meets its contract. Assumes nothing.
use Rattle.book.specs.Layout.{record_of}
use Rattle.book_entry.proofs.record_at.Goals as goal

pub returns : goal.returns
unfolding record_of
returns c =
    rw (
      c.get_u32.ensures,
      c.time_at.ensures,
      c.double_at.ensures,
      c.pos_at.ensures,
      c.description_at.ensures,
      c.get_u16.ensures,
      c.read_lots.ensures,
      c.get_u16-2.ensures,
    )
