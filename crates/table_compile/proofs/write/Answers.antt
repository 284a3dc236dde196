-- `table_compile::write` meets its contract: with the keys and the values noted, the table is written. Assumes nothing.
use Prim.Native.Nat.{ℕ, ◌*◌}
use native.Mathlib.Omega.{arith}
use mathlib.Core.Path.{refl}
use lib.ListN.{length-replicate}
use Rattle.table_compile.proofs.Steps.{sheet-clauses, fresh-room, noted-fit, noted_mean}
use Rattle.table_compile.proofs.write.Goals as goal

pub note_keys-requires : goal.note_keys-requires
note_keys-requires c =
    let few = c.requires.sheet_done.ok.short in
    record { rows_ok = sheet-clauses c.requires.sheet_done; room = fresh-room c.new-keys.ensures 256 c.args.a.clauses refl refl refl (omega arith) (omega arith) }

pub note_values-requires : goal.note_values-requires
note_values-requires c =
    let few = c.requires.sheet_done.ok.short in
    record { rows_ok = sheet-clauses c.requires.sheet_done; room = fresh-room c.new-values.ensures 768 (3 * c.args.a.clauses) refl refl refl (omega arith) (omega arith) }

pub put_table-requires : goal.put_table-requires
put_table-requires c =
    let fit = noted-fit c.requires.sheet_done c.note_keys.ensures.noted c.note_values.ensures.coded c.words-keys.ensures c.words-values.ensures in
    record { table_len = c.requires.table_len; table_fits = fit (length-replicate {A = ℕ} 256 0) (length-replicate {A = ℕ} 768 0) }

pub returns : goal.returns
returns c = noted_mean c.requires.sheet_done c.note_keys.ensures.noted c.note_values.ensures.coded c.words-keys.ensures c.words-values.ensures c.put_table.ensures
