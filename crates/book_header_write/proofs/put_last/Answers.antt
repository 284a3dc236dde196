-- `book_header::put_last` meets its contract: four parts, one behind another. Assumes nothing.
use native.Mathlib.Omega.{arith}
use Rattle.le.specs.Le.{le_bytes}
use Rattle.text.proofs.Put.{put-patch, put-put}
use Rattle.book_field.proofs.Laws.{not_nan}
use Rattle.book_header_write.proofs.put_last.Goals as goal

pub put_f64-requires : goal.put_f64-requires
put_f64-requires c =
    (omega arith, not_nan c.args.r.bar.price c.requires.price_value)

pub returns : goal.returns
unfolding le_bytes
returns c =
    let p1 = put-patch c.put_u32.ensures (omega arith) in
    let p2 = put-put p1 (put-patch c.put_time.ensures (omega arith)) in
    let p3 = put-put p2 (put-patch c.put_u32-2.ensures (omega arith)) in
    (put-put p3 (put-patch c.put_f64.ensures (omega arith))).written
