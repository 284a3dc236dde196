-- The key is put behind the last word, and is noted there. Assumes nothing.
use mathlib.Core.Path.{ap, ◌∙◌}
use Rattle.table_wordbook.specs.Wordbook.{words_length}
use Rattle.table_codes.proofs.Places.{key-start, key-signal, key-is, key-put}
use Rattle.table_codes.proofs.Adding.{put_candidate, key-added}
use Rattle.table_codes.proofs.note_key.Goals as goal

pub slice_bounds-put_key-count : goal.slice_bounds-put_key-count
slice_bounds-put_key-count c =
    key-start c.args.s.now c.args.cs.now c.args.i c.requires.row_ok

pub slice_bounds-put_key-start : goal.slice_bounds-put_key-start
slice_bounds-put_key-start c =
    key-start c.args.s.now c.args.cs.now c.args.i c.requires.row_ok

pub put_key-to-requires : goal.put_key-to-requires
put_key-to-requires c =
    let a = c.args in
    let behind = c.end-end.ensures ∙ ap words_length c.words.ensures in
    record { signal_ok = key-signal a.s.now a.cs.now a.i c.requires.row_ok c.signal_at.ensures; a_in_bounds = rw (behind, key-is a.s.now a.cs.now a.i c.requires.row_ok c.signal_at.ensures) c.requires.room.texts-room }

pub note-requires : goal.note-requires
note-requires c =
    let a = c.args in
    let behind = c.end-end.ensures ∙ ap words_length c.words.ensures in
    put_candidate c.requires.room (key-put a.s.now a.cs.now a.i c.requires.row_ok c.signal_at.ensures (rw behind at c.put_key-to.ensures))

pub returns : goal.returns
returns c =
    let a = c.args in
    let behind = c.end-end.ensures ∙ ap words_length c.words.ensures in
    let put = key-put a.s.now a.cs.now a.i c.requires.row_ok c.signal_at.ensures (rw behind at c.put_key-to.ensures) in
    record { same_buffers = c.note.ensures.same_buffers; added = key-added c.requires.room put c.note.ensures.noted }
