-- The keys of all clauses, one after another. Assumes nothing.
use Rattle.table_wordbook.proofs.Buffers.{same_first, same_more}
use Rattle.table_codes.proofs.Places.{row_ok}
use Rattle.table_codes.proofs.Loops.{keying_first, keying_open, keying_more, keying_last}
use Rattle.table_codes.proofs.note_keys.Goals as goal

pub loop-i-init : goal.loop-i-init
loop-i-init c =
    (same_first, keying_first c.requires.rows_ok c.requires.room)

pub note_key-requires : goal.note_key-requires
note_key-requires c = record { row_ok = row_ok c.requires.rows_ok c.loop-i.i c.loop-i-test.true; room = keying_open c.requires.rows_ok c.requires.room c.loop-i.invariant.1 c.loop-i-test.true }

pub loop-i-preserved : goal.loop-i-preserved
loop-i-preserved c =
    let same = same_more c.loop-i.invariant.0 c.note_key.ensures.same_buffers in
    (same, keying_more c.requires.rows_ok c.requires.room c.loop-i.invariant.1 c.loop-i-test.true c.note_key.ensures.added)

pub returns : goal.returns
returns c =
    let noted = keying_last c.requires.rows_ok c.requires.room c.loop-i.invariant.1 c.loop-i-test.false in
    record { same_buffers = c.loop-i.invariant.0; noted = noted }
