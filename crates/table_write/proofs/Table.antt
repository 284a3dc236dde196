-- The header, the rows and the texts that are written are the table of the draft. Assumes nothing.
use Prim.Native.Nat.{ℕ, ◌+◌, ◌-◌, ◌≤◌}
use native.Mathlib.Omega.{arith}
use mathlib.Core.Path.{◌≡◌, sym, ap₂, ◌∙◌, subst}
use mathlib.Core.List.{List, ◌++◌, append_assoc}
use lib.ListN.{length, replicate}
use lib.Seq.{slice, length-slice, length-take-le}
use Rattle.list.proofs.Laws.{numbered-length}
use Rattle.text.specs.Read.{Put}
use Rattle.text.proofs.Put.{put-put}
use Rattle.sheet.specs.declared.SheetAt.{SheetAt}
use Rattle.le.specs.Field.{put32}
use Rattle.table.specs.Layout.{table_length, layout_number, Parts}
use Rattle.table_layout.specs.Build.{event_bytes, clause_bytes, word_bytes, row_bytes, settings_bytes, counts_bytes, places_bytes, counts_for, places_for, head_bytes, body_bytes, used_bytes, table_of}
use Rattle.table_layout.proofs.Fill.{put_table}
use Rattle.table_wordbook.specs.Wordbook.{Words, words_length}
use Rattle.table_parts.specs.Draft.{word_row, word_rows, word_texts, clause_row, clause_rows, names_at, names_length, event_row, event_rows, draft}
use Rattle.table_parts.proofs.Events.{names-within}
use Rattle.table_write_rows.specs.Rows.{PutOf}
use Rattle.table_write_head.specs.Head.{settings_of, counts_of}
use Rattle.table_write.specs.Fits.{NamesFit, TextsFit, places_kept, TableFits}

-- the names are as long as they say
names-length : {s es : List ℕ} {n : ℕ} → NamesFit s es n → (i : ℕ) → i ≤ n → length (names_at s es i) ≡ names_length es i
names-length {s} {es} {n} f = names-within s es n f.each

-- ---- the counts and places of the draft

module _ (s es cs : List ℕ) (a : SheetAt) (numbers codes : List ℕ) (ks vs : Words) (t : TextsFit s es a ks vs) where
  events-count : length (event_rows es a.events) ≡ a.events
  events-count = numbered-length (event_row es) a.events

  clauses-count : length (clause_rows cs numbers codes a.clauses) ≡ a.clauses
  clauses-count = numbered-length (clause_row cs numbers codes) a.clauses

  keys-count : length (word_rows ks.starts ks.orders ks.ranks ks.count) ≡ ks.count
  keys-count = numbered-length (word_row ks.starts ks.orders ks.ranks) ks.count

  values-count : length (word_rows vs.starts vs.orders vs.ranks vs.count) ≡ vs.count
  values-count = numbered-length (word_row vs.starts vs.orders vs.ranks) vs.count

  name-long : length (slice 2 a.name s) ≡ a.name - 2
  name-long = length-slice 2 a.name s (omega (arith, t.within, t.symbol))

  symbol-long : length (slice (a.name + 1) a.symbol s) ≡ a.symbol - (a.name + 1)
  symbol-long = length-slice (a.name + 1) a.symbol s t.within

  names-long : length (names_at s es a.events) ≡ names_length es a.events
  names-long = names-length t.names a.events (omega arith)

  keys-long : length (word_texts ks) ≡ words_length ks
  keys-long = length-take-le (words_length ks) ks.texts t.keys

  values-long : length (word_texts vs) ≡ words_length vs
  values-long = length-take-le (words_length vs) vs.texts t.values

  pub counts-are : counts_for (draft s es cs a numbers codes ks vs) ≡ counts_of a ks.count vs.count
  unfolding counts_for draft
  counts-are = rw (events-count, clauses-count, keys-count, values-count, name-long, symbol-long)

  pub places-are : places_for (draft s es cs a numbers codes ks vs) ≡ places_kept es a ks vs
  unfolding places_for counts_for draft
  places-are = rw (events-count, clauses-count, keys-count, values-count, name-long, symbol-long, names-long, keys-long, values-long)

-- ---- the table

module _ {s es cs : List ℕ} {a : SheetAt} {numbers codes : List ℕ} {ks vs : Words} (f : TableFits s es cs a numbers codes ks vs) where
  abbrev parts : Parts
  parts = draft s es cs a numbers codes ks vs

  -- what is written
  abbrev head : List ℕ
  head = put32 layout_number ++ settings_bytes (settings_of a) ++ counts_bytes (counts_of a ks.count vs.count) ++ places_bytes (places_kept es a ks vs)

  abbrev rows : List ℕ
  rows =
      row_bytes event_bytes (event_rows es a.events) ++ row_bytes clause_bytes (clause_rows cs numbers codes a.clauses)
      ++ row_bytes word_bytes (word_rows ks.starts ks.orders ks.ranks ks.count) ++ row_bytes word_bytes (word_rows vs.starts vs.orders vs.ranks vs.count)

  abbrev texts : List ℕ
  texts = slice 2 a.name s ++ slice (a.name + 1) a.symbol s ++ names_at s es a.events ++ word_texts ks ++ word_texts vs

  head-is : head ≡ head_bytes parts
  unfolding head_bytes draft
  head-is = sym (rw (counts-are s es cs a numbers codes ks vs f.texts, places-are s es cs a numbers codes ks vs f.texts))

  body_is : rows ++ texts ≡ body_bytes parts
  unfolding body_bytes draft
  body_is = simp append_assoc

  used-is : head ++ rows ++ texts ≡ used_bytes parts
  unfolding used_bytes
  used-is = append_assoc head rows texts ∙ ap₂ ◌++◌ head-is body_is

  -- into zeros
  pub table_put : {l m n o : List ℕ} {i j p q r : ℕ} → l ≡ replicate table_length 0 → PutOf i l m 0 head p → PutOf j m n p rows q → Put n o q texts r → o ≡ table_of parts
  table_put {l} {m} {n} {o} {i} {j} {p} {q} {r} e h k t =
      put_table parts e (subst (λ (x : List ℕ). Put l o 0 x r) used-is (put-put (put-put h.put k.put) t))
