-- The value stands between two places of its clause. Assumes nothing.
use Rattle.table_codes.proofs.Places.{value_stands}
use Rattle.table_codes_values.proofs.note_value_at.Goals as goal

pub note_value-requires : goal.note_value-requires
note_value-requires c =
    let x = value_stands c.args.s.now c.args.cs.now c.args.j c.requires.row_ok in
    record { part = x.part; room = rw x.is c.requires.room }

pub returns : goal.returns
returns c =
    let x = value_stands c.args.s.now c.args.cs.now c.args.j c.requires.row_ok in
    record { same_buffers = c.note_value.ensures.same_buffers; added = rw x.is at c.note_value.ensures.added }
