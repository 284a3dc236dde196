-- Zeros, then the header, the rows and the texts: the table of the draft. Assumes nothing.
use Prim.Native.Nat.{ℕ}
use borrow.Author.Rules.{rules}
use native.Mathlib.Omega.{arith}
use mathlib.Core.Path.{ap, ◌∙◌}
use lib.ListN.{replicate}
use Rattle.table_write_rows.proofs.Joined.{◌then◌}
use Rattle.table_write.proofs.Table.{table_put}
use Rattle.table_write.proofs.put_table.Goals as goal

pub put_rows-p-requires : goal.put_rows-p-requires
put_rows-p-requires c =
    let f = c.requires.table_fits in
    let done = c.put_head-p.ensures in
    record { events_fit = f.events; clauses_fit = f.clauses; clauses_in_bounds = omega (arith, done.near, done.put.kept, f.room, c.requires.table_len) }

pub put_words-p-requires : goal.put_words-p-requires
put_words-p-requires c =
    let f = c.requires.table_fits in
    let done = c.put_head-p.ensures then c.put_rows-p.ensures in
    record { words_fit = f.keys; n_in_bounds = omega (arith, done.near, done.put.kept, f.room, c.requires.table_len) }

pub put_words-p-requires-2 : goal.put_words-p-requires-2
put_words-p-requires-2 c =
    let f = c.requires.table_fits in
    let done = c.put_head-p.ensures then c.put_rows-p.ensures then c.put_words-p.ensures in
    record { words_fit = f.values; n_in_bounds = omega (arith, done.near, done.put.kept, f.room, c.requires.table_len) }

pub put_texts-requires : goal.put_texts-requires
put_texts-requires c =
    let f = c.requires.table_fits in
    let done = c.put_head-p.ensures then c.put_rows-p.ensures then c.put_words-p.ensures then c.put_words-p-2.ensures in
    record { texts_fit = f.texts; keys_end = f.keys.starts-room; values_end = f.values.starts-room; texts_in_bounds = omega (arith, done.near, done.put.kept, f.room, c.requires.table_len) }

pub shape_of-table : goal.shape_of-table
shape_of-table c =
    let done = c.put_head-p.ensures then c.put_rows-p.ensures then c.put_words-p.ensures then c.put_words-p-2.ensures in
    let kept = c.put_texts.ensures.kept ∙ done.put.kept in
    search rules

pub returns : goal.returns
returns c =
    let zeros = c.clear.ensures ∙ ap (λ (n : ℕ). replicate n 0) c.requires.table_len in
    let head = rw (c.names_length-names.ensures, c.end.ensures, c.end-2.ensures) at c.put_head-p.ensures in
    table_put c.requires.table_fits zeros head (c.put_rows-p.ensures then c.put_words-p.ensures then c.put_words-p-2.ensures) c.put_texts.ensures
