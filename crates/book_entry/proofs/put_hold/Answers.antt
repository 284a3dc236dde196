-- `book_entry::put_hold` meets its contract. Assumes nothing.
use native.Mathlib.Omega.{arith}
use mathlib.Core.Path.{refl}
use mathlib.Core.List.{[], ◌∷◌}
use Rattle.le.specs.Field.{put16, put_f64}
use Rattle.le.proofs.Laws.{length-le_bytes}
use Rattle.position.specs.State.{pos_code}
use Rattle.book.specs.Layout.{yield_flag, yield_bytes, hold_bytes}
use Rattle.book_field.proofs.Laws.{time-length, put_first, put_next, not_nan}
use borrow.Author.Rules.{rules}
use Rattle.book.proofs.Lengths.{yield-length}
use Rattle.book_entry.proofs.put_hold.Goals as goal

pub put_f64-requires : goal.put_f64-requires
put_f64-requires c =
    (search rules, not_nan c.args.o.price c.requires.hold_numbers.price)

pub returns : goal.returns
unfolding hold_bytes
returns c =
    let o = c.args.o in
    let two = rw (c.pos_code.ensures, c.yield_flag.ensures) at c.put_bytes.ensures in
    let w1 = put_first 12 c.put_time.ensures (time-length o.time) (omega arith) in
    let w2 = put_next 2 (pos_code o.pos ∷ yield_flag o.n1b ∷ []) w1 two refl refl (omega arith) in
    let w3 = put_next 2 (put16 o.lots) w2 c.put_u16.ensures (length-le_bytes 2 _) (omega arith) (omega arith) in
    let w4 = put_next 8 (put_f64 o.price) w3 c.put_f64.ensures (length-le_bytes 8 _) (omega arith) (omega arith) in
    (put_next 8 (yield_bytes o.n1b) w4 c.put_yield.ensures (yield-length o.n1b) (omega arith) (omega arith)).written
