-- The row is made in its own buffer, and written where it fits. Assumes nothing.
use Prim.Native.Nat.{◌+◌}
use native.Mathlib.Omega.{arith}
use mathlib.Core.Path.{refl}
use Rattle.table.specs.Layout.{parts_in}
use Rattle.table.specs.Table.{sheet_of}
use Rattle.row_pairs.specs.Found.{pair_from}
use Rattle.row_pairs.proofs.Numbers.{pair_numbers_lem, record_priced}
use Rattle.row_blocks_pair_write.specs.Row.{RowNumbers}
use Rattle.row_blocks_pairs.proofs.Made.{Made, made, made_full, made_put, made_numbers}
use Rattle.row_blocks_pairs.proofs.add_pair.Goals as goal

pub overflow_add-n : goal.overflow_add-n
overflow_add-n c =
    let row : let a = c.args in Made (pair_from (sheet_of (parts_in a.t.now)) a.c a.b.now a.j) c.pair_at-p.result c.pair_at-p.new.buffer = made refl c.pair_at-p.auto.buffer c.pair_at-p.ensures in
    omega (arith, row.fit)

pub overflow_add-n-2 : goal.overflow_add-n-2
overflow_add-n-2 c =
    let row : let a = c.args in Made (pair_from (sheet_of (parts_in a.t.now)) a.c a.b.now a.j) c.pair_at-p.result c.pair_at-p.new.buffer = made refl c.pair_at-p.auto.buffer c.pair_at-p.ensures in
    omega (arith, row.fit)

pub overflow_add-n-3 : goal.overflow_add-n-3
overflow_add-n-3 c =
    let row : let a = c.args in Made (pair_from (sheet_of (parts_in a.t.now)) a.c a.b.now a.j) c.pair_at-p.result c.pair_at-p.new.buffer = made refl c.pair_at-p.auto.buffer c.pair_at-p.ensures in
    omega (arith, row.fit)

pub returns-then-out-at : goal.returns-then-out-at
returns-then-out-at c =
    let row : let a = c.args in Made (pair_from (sheet_of (parts_in a.t.now)) a.c a.b.now a.j) c.pair_at-p.result c.pair_at-p.new.buffer = made refl c.pair_at-p.auto.buffer c.pair_at-p.ensures in
    (made_full row _ _ c.if-out-at.true, refl)

pub put_row-requires : goal.put_row-requires
put_row-requires c =
    let row : let a = c.args in Made (pair_from (sheet_of (parts_in a.t.now)) a.c a.b.now a.j) c.pair_at-p.result c.pair_at-p.new.buffer = made refl c.pair_at-p.auto.buffer c.pair_at-p.ensures in
    let numbers : RowNumbers c.pair_at-p.result =
    let h = c.requires.traded in
    let l = c.requires.j_bound in
    let j = c.args.j in
    made_numbers row (pair_numbers_lem _ _ _ (record_priced h j (omega (arith, l))) (record_priced h (j + 1) l)) in
    record { n_in_bounds = omega (arith, row.fit, row.size); n_in_bounds_2 = omega (arith, c.if-out-at.false, c.requires.at_in_bounds); row_numbers = numbers }

pub returns : goal.returns
returns c =
    let row : let a = c.args in Made (pair_from (sheet_of (parts_in a.t.now)) a.c a.b.now a.j) c.pair_at-p.result c.pair_at-p.new.buffer = made refl c.pair_at-p.auto.buffer c.pair_at-p.ensures in
    made_put row c.put_row.ensures
