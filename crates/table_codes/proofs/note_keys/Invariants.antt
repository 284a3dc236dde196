-- What the loops keep.
use Rattle.table_wordbook.specs.Wordbook.{book_words}
use Rattle.table_wordbook.specs.Read.{SameBuffers}
use Rattle.table_codes.proofs.Loops.{Keying}
use Rattle.table_codes.proofs.note_keys.Given as goal

abbrev pub invariant-loop-i : goal.invariant-loop-i
invariant-loop-i l = SameBuffers l.initial.keys l.keys × Keying l.s l.cs l.m (book_words l.initial.texts l.initial.keys) l.initial.numbers (book_words l.texts l.keys) l.numbers l.i
