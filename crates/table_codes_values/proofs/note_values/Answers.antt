-- The values of all clauses, one after another. Assumes nothing.
use Prim.Native.Nat.{◌/◌}
use native.Mathlib.Omega.{arith}
use Rattle.table_wordbook.proofs.Buffers.{same_first, same_more}
use Rattle.table_codes.proofs.Places.{row_ok}
use Rattle.table_codes.proofs.Loops.{coding_first, coding_open, coding_more, coding_last}
use Rattle.table_codes_values.proofs.note_values.Goals as goal

pub loop-j-init : goal.loop-j-init
loop-j-init c =
    (same_first, coding_first c.requires.rows_ok c.requires.room)

pub note_value_at-requires : goal.note_value_at-requires
note_value_at-requires c = record { row_ok = row_ok c.requires.rows_ok (c.loop-j.j / 3) (omega (arith, c.loop-j-test.true)); room = coding_open c.requires.rows_ok c.requires.room c.loop-j.invariant.1 c.loop-j-test.true }

pub loop-j-preserved : goal.loop-j-preserved
loop-j-preserved c =
    let same = same_more c.loop-j.invariant.0 c.note_value_at.ensures.same_buffers in
    (same, coding_more c.requires.rows_ok c.requires.room c.loop-j.invariant.1 c.loop-j-test.true c.note_value_at.ensures.added)

pub returns : goal.returns
returns c =
    let coded = coding_last c.requires.rows_ok c.requires.room c.loop-j.invariant.1 c.loop-j-test.false in
    record { same_buffers = c.loop-j.invariant.0; coded = coded }
