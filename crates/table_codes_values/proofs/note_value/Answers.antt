-- The wildcard stays out; any other value is copied behind the last word, and is noted there. Assumes nothing.
use native.Mathlib.Omega.{arith}
use mathlib.Core.Path.{sym, ap, ◌∙◌}
use lib.Seq.{slice, length-slice}
use Rattle.table_wordbook.specs.Wordbook.{words_length}
use Rattle.table_wordbook.proofs.Buffers.{same_first}
use Rattle.table_codes.proofs.Adding.{put_candidate, value-added, wild_added}
use Rattle.table_codes_values.proofs.note_value.Goals as goal

pub returns-then-is_wild : goal.returns-then-is_wild
returns-then-is_wild c =
    let added = wild_added c.requires.room (slice c.args.from c.args.to c.args.s.now) (sym c.is_wild.ensures ∙ c.if-is_wild.true) in
    record { same_buffers = same_first; added = added }

pub put_part-behind-requires : goal.put_part-behind-requires
put_part-behind-requires c =
    let behind = c.end-end.ensures ∙ ap words_length c.words.ensures in
    let long = length-slice c.args.from c.args.to c.args.s.now c.requires.part.within in
    record { part = c.requires.part; from_in_bounds = omega (arith, behind, long, c.requires.room.texts-room) }

pub note-requires : goal.note-requires
note-requires c =
    let behind = c.end-end.ensures ∙ ap words_length c.words.ensures in
    put_candidate c.requires.room (rw behind at c.put_part-behind.ensures)

pub overflow_add-result : goal.overflow_add-result
overflow_add-result c =
    let n = c.note.ensures.noted in
    omega (arith, n.below, n.most, c.requires.room.few)

pub returns : goal.returns
returns c =
    let behind = c.end-end.ensures ∙ ap words_length c.words.ensures in
    let added = value-added c.requires.room (rw behind at c.put_part-behind.ensures) c.note.ensures.noted (sym c.is_wild.ensures ∙ c.if-is_wild.false) in
    record { same_buffers = c.note.ensures.same_buffers; added = added }
