-- `book_field::put_time` meets its contract. Assumes nothing.
use mathlib.Core.Path.{refl}
use native.Mathlib.Omega.{arith}
use borrow.Author.Rules.{rules}
use mir.Syntax.{w32, w64}
use mir.Facts.{to_z-of_z}
use Rattle.le.specs.Field.{put_i32}
use Rattle.le.proofs.Laws.{length-le_bytes}
use Rattle.book_field.proofs.Laws.{put_first, put_next}
use Rattle.book_field.proofs.put_time.Goals as goal

pub returns : goal.returns
returns c =
    let a = c.args in
    let e1 = to_z-of_z {w = w64} {z = a.t.instant.0} (search rules) in
    let e2 = to_z-of_z {w = w32} {z = a.t.offset} (search rules) in
    let first = put_first 8 (rw e1 at c.put_i64.ensures) (length-le_bytes 8 _) (omega arith) in
    (put_next 4 (put_i32 a.t.offset) first (rw e2 at c.put_i32.ensures) (length-le_bytes 4 _) refl (omega arith)).written
