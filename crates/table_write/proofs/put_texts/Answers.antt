-- The five texts, one behind another. Assumes nothing.
use native.Mathlib.Omega.{arith}
use Rattle.table_write_rows.proofs.Joined.{◌then◌}
use Rattle.table_write.proofs.put_texts.Goals as goal

pub put_text-p-requires-3 : goal.put_text-p-requires-3
put_text-p-requires-3 c =
    let done = c.put_text-p.ensures then c.put_text-p-2.ensures then c.put_names-p.ensures in
    record { part = record { order = omega arith; within = rw c.end.ensures c.requires.texts_fit.keys }; from_in_bounds = rw c.end.ensures (omega (arith, done.near, done.put.kept, c.requires.texts_in_bounds)) }

pub put_text-requires : goal.put_text-requires
put_text-requires c =
    let done = c.put_text-p.ensures then c.put_text-p-2.ensures then c.put_names-p.ensures then c.put_text-p-3.ensures in
    record { part = record { order = omega arith; within = rw c.end-2.ensures c.requires.texts_fit.values }; from_in_bounds = rw c.end-2.ensures (omega (arith, done.near, done.put.kept, c.requires.texts_in_bounds)) }

pub returns : goal.returns
returns c =
    let keys = rw c.end.ensures at c.put_text-p-3.ensures in
    let values = rw c.end-2.ensures at c.put_text.ensures in
    (c.put_text-p.ensures then c.put_text-p-2.ensures then c.put_names-p.ensures then keys then values).put
