-- `book_header_write::put_head` meets its contract: its parts, one behind another. Assumes nothing.
use native.Mathlib.Omega.{arith}
use mathlib.Core.Path.{◌∙◌, ap}
use Rattle.le.specs.Le.{patch, le_bytes}
use Rattle.text.proofs.Put.{put-patch, put-put}
use Rattle.book_header_write.proofs.Parts.{head-parts}
use Rattle.book_header_write.proofs.put_head.Goals as goal

pub returns : goal.returns
unfolding le_bytes
returns c =
    let a = c.args in
    let p1 = put-patch c.put_counts.ensures (omega (arith, c.requires.in_bounds)) in
    let p2 = put-put p1 (put-patch c.put_flags.ensures (omega (arith, c.requires.in_bounds, p1.kept))) in
    let p3 = put-put p2 (put-patch c.put_times.ensures (omega (arith, c.requires.in_bounds, p2.kept))) in
    let last = rw c.last_of.ensures at c.put_last.ensures in
    (put-put p3 (put-patch last (omega (arith, c.requires.in_bounds, p3.kept)))).written ∙ ap (patch a.b.now 0) (head-parts a.c a.hs a.rs a.h)
