-- `book_field::put_bytes` meets its contract. Assumes nothing.
use mathlib.Core.Path.{refl}
use lib.ListN.{length}
use Rattle.le.proofs.Laws.{copied}
use Rattle.book_field.proofs.put_bytes.Goals as goal

pub returns : goal.returns
returns c =
    let a = c.args in
    copied a.b.now _ _ a.at (length a.bytes.now) c.copy_from_slice.ensures.after refl
