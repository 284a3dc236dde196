-- The key and the three values, one behind another. Assumes nothing.
use Prim.Native.Nat.{◌+◌}
use native.Mathlib.Omega.{arith}
use lib.Seq.{length-slice}
use borrow.Author.Rules.{rules}
use Rattle.signal.proofs.Keys.{key-short}
use Rattle.position_book_answer_alone.proofs.Laws.{signal-put}
use Rattle.position_book_answer_alone.proofs.put_signal.Goals as goal

pub put_key-key-requires : goal.put_key-key-requires
put_key-key-requires c = record { signal_ok = search rules; a_in_bounds = omega (arith, key-short c.args.text.now c.args.a c.requires.signal_ok) }

pub put_part-q-requires : goal.put_part-q-requires
put_part-q-requires c =
    let one = length-slice (c.args.a.k3 + 1) c.args.a.v1 c.args.text.now (omega arith) in
    record { part = search rules; from_in_bounds = omega (arith, c.put_key-key.ensures.near, c.put_key-key.ensures.put.kept, c.put_part-p.ensures.end, c.put_part-p.ensures.kept) }

pub put_part-r-requires : goal.put_part-r-requires
put_part-r-requires c =
    let one = length-slice (c.args.a.k3 + 1) c.args.a.v1 c.args.text.now (omega arith) in
    let two = length-slice (c.args.a.v1 + 1) c.args.a.v2 c.args.text.now (omega arith) in
    record { part = search rules; from_in_bounds = omega (arith, c.put_key-key.ensures.near, c.put_key-key.ensures.put.kept, c.put_part-p.ensures.end, c.put_part-p.ensures.kept, c.put_part-q.ensures.end, c.put_part-q.ensures.kept) }

pub returns : goal.returns
returns c =
    signal-put c.args.text.now c.args.a c.put_key-key.ensures.put c.put_part-p.ensures c.put_part-q.ensures c.put_part-r.ensures
