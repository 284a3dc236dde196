-- What the loop keeps.
use Rattle.table.specs.Layout.{parts_in}
use Rattle.table.specs.Table.{sheet_of}
use Rattle.row_blocks_pairs.proofs.Walking.{Walking, rows_at}
use Rattle.row_blocks_pairs.proofs.put_rows.Given as goal

abbrev pub invariant-loop-j : goal.invariant-loop-j
invariant-loop-j l =
    let s = sheet_of (parts_in l.t) in
    Walking s l.c l.b (rows_at s l.c l.b l.first) l.initial.out l.out l.j l.rows l.at
