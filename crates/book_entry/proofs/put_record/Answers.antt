-- `book_entry::put_record` meets its contract. Assumes nothing.
use native.Mathlib.Omega.{arith}
use mathlib.Core.Path.{refl}
use mathlib.Core.List.{[], ◌∷◌}
use Rattle.le.specs.Field.{put16, put32, put_f64}
use Rattle.le.proofs.Laws.{length-le_bytes}
use Rattle.position.specs.State.{pos_code}
use Rattle.book.specs.Layout.{description_code, description_event, record_bytes}
use Rattle.book_field.proofs.Laws.{time-length, put_first, put_next, not_nan}
use borrow.Author.Rules.{rules}
use Rattle.book_entry.proofs.put_record.Goals as goal

pub put_f64-requires : goal.put_f64-requires
put_f64-requires c =
    (search rules, not_nan c.args.r.bar.price c.requires.price_value)

pub returns : goal.returns
unfolding record_bytes
returns c =
    let r = c.args.r in
    let four = rw (c.pos_code.ensures, c.description_code.ensures) at c.put_bytes.ensures in
    let event = rw c.description_event.ensures at c.put_u16.ensures in
    let w1 = put_first 12 c.put_time.ensures (time-length r.bar.time) (omega arith) in
    let w2 = put_next 4 (put32 r.bar.id) w1 c.put_u32.ensures (length-le_bytes 4 _) refl (omega arith) in
    let w3 = put_next 8 (put_f64 r.bar.price) w2 c.put_f64.ensures (length-le_bytes 8 _) (omega arith) (omega arith) in
    let w4 = put_next 4 (r.operate ∷ pos_code r.pos ∷ description_code r.description ∷ 0 ∷ []) w3 four refl (omega arith) (omega arith) in
    let w5 = put_next 2 (put16 (description_event r.description)) w4 event (length-le_bytes 2 _) (omega arith) (omega arith) in
    (put_next 2 (put16 r.lots) w5 c.put_u16-2.ensures (length-le_bytes 2 _) (omega arith) (omega arith)).written
