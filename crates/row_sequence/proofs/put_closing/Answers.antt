-- The four pieces, one behind another. Assumes nothing.
use Prim.Native.Nat.{◌/◌}
use native.Mathlib.Omega.{arith}
use borrow.Author.Rules.{rules}
use Rattle.text_write.proofs.Written.{length_decimal}
use Rattle.stop.proofs.Kept.{text-length}
use Rattle.row_sequence.proofs.Closings.{close_length, closing-put}
use Rattle.row_sequence.proofs.put_closing.Goals as goal

pub put_byte-q-requires : goal.put_byte-q-requires
put_byte-q-requires c =
    omega (arith, c.put_close_name-p.ensures.end, c.put_close_name-p.ensures.kept, close_length c.args.operate)

pub put_stop-end-requires : goal.put_stop-end-requires
put_stop-end-requires c =
    omega (arith, c.put_byte-q.ensures.end, c.put_byte-q.ensures.kept, c.put_close_name-p.ensures.end, c.put_close_name-p.ensures.kept, close_length c.args.operate)

pub put_part-requires : goal.put_part-requires
put_part-requires c = record { part = search rules; from_in_bounds = omega (arith, c.put_stop-end.ensures.end, c.put_stop-end.ensures.kept, c.put_byte-q.ensures.end, c.put_byte-q.ensures.kept, c.put_close_name-p.ensures.end, c.put_close_name-p.ensures.kept, close_length c.args.operate, text-length c.args.h, length_decimal (c.args.h / 100) (omega arith)) }

pub returns : goal.returns
returns c =
    let a = c.args in
    closing-put a.operate a.h a.unit.now (omega arith) c.requires.unit_len_bound c.put_close_name-p.ensures c.put_byte-q.ensures c.put_stop-end.ensures c.put_part.ensures
