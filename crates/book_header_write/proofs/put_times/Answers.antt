-- `book_header_write::put_times` meets its contract: four parts, one behind another. Assumes nothing.
use native.Mathlib.Omega.{arith}
use mathlib.Core.Path.{◌≡◌}
use mir.Syntax.{w32, w64}
use mir.Facts.{to_z-of_z}
use borrow.Author.Rules.{rules}
use Rattle.le.specs.Le.{le_bytes}
use Rattle.text.proofs.Put.{put-patch, put-put}
use Rattle.book.specs.Layout.{open_time}
use Rattle.book_header_write.proofs.put_times.Goals as goal

pub returns : goal.returns
unfolding le_bytes
returns c =
    let h = c.args.h in
    let long : c.unwrap_or-long.result ≡ open_time h.long = search rules in
    let short : c.unwrap_or.result ≡ open_time h.short = search rules in
    let offset = to_z-of_z {w = w32} {z = (open_time h.long).offset} (search rules) in
    let instant = to_z-of_z {w = w64} {z = (open_time h.long).instant.0} (search rules) in
    let p1 = put-patch c.put_time.ensures (omega arith) in
    let p2 = put-put p1 (put-patch (rw (long, offset) at c.put_i32.ensures) (omega arith)) in
    let p3 = put-put p2 (put-patch (rw (long, instant) at c.put_i64.ensures) (omega arith)) in
    (put-put p3 (put-patch (rw short at c.put_time-2.ensures) (omega arith))).written
