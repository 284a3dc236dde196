-- `book_header::read_head` meets its contract. Assumes nothing.
use mathlib.Core.Path.{refl}
use Rattle.le.specs.Field.{u8}
use Rattle.book.specs.Layout.{head_of, time_at}
use Rattle.book_header.specs.Bytes.{last_at}
use Rattle.book_header.proofs.Present.{open_present, reference_present}
use Rattle.book_header.proofs.read_head.Goals as goal

pub returns : goal.returns
unfolding head_of
returns c =
    let b = c.args.b.now in
    rw (
      c.then_some-3.ensures,
      c.read_last.ensures,
      reference_present (u8 b 28) (last_at b),
      c.then_some-2.ensures,
      c.time_at-3.ensures,
      open_present (u8 b 27) (time_at b 56 64),
      c.then_some.ensures,
      c.time_at-2.ensures,
      open_present (u8 b 26) (time_at b 48 44),
      c.time_at.ensures,
      c.pos_at.ensures,
    )
    refl
