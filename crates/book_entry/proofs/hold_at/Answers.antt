-- `book_entry::hold_at` meets its contract. Assumes nothing.
use Rattle.book.specs.Layout.{hold_of}
use Rattle.book_entry.proofs.hold_at.Goals as goal

pub returns : goal.returns
unfolding hold_of
returns c =
    rw (
      c.held_lots.ensures,
      c.read_lots.ensures,
      c.get_u16.ensures,
      c.yield_at.ensures,
      c.double_at-2.ensures,
      c.double_at.ensures,
      c.time_at.ensures,
      c.pos_at-pos.ensures,
    )
