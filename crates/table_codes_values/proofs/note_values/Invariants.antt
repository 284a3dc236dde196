-- What the loops keep.
use Rattle.table_wordbook.specs.Wordbook.{book_words}
use Rattle.table_wordbook.specs.Read.{SameBuffers}
use Rattle.table_codes.proofs.Loops.{Coding}
use Rattle.table_codes_values.proofs.note_values.Given as goal

abbrev pub invariant-loop-j : goal.invariant-loop-j
invariant-loop-j l = SameBuffers l.initial.values l.values × Coding l.s l.cs l.m (book_words l.initial.texts l.initial.values) l.initial.codes (book_words l.texts l.values) l.codes l.j
