-- `book_header::put_counts` meets its contract: six numbers, one behind another. Assumes nothing.
use native.Mathlib.Omega.{arith}
use Rattle.le.specs.Le.{le_bytes}
use Rattle.text.proofs.Put.{put-patch, put-put}
use Rattle.book_header_write.proofs.put_counts.Goals as goal

pub returns : goal.returns
unfolding le_bytes
returns c =
    let p1 = put-patch c.put_u32.ensures (omega arith) in
    let p2 = put-put p1 (put-patch c.put_u32-2.ensures (omega arith)) in
    let p3 = put-put p2 (put-patch c.put_u32-3.ensures (omega arith)) in
    let p4 = put-put p3 (put-patch c.put_u32-4.ensures (omega arith)) in
    let p5 = put-put p4 (put-patch c.put_u32-5.ensures (omega arith)) in
    (put-put p5 (put-patch c.put_u32-6.ensures (omega arith))).written
