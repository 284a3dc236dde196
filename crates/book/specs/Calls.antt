-- Fresh, feed, save and restore: the number, the values and the lent bytes at exit, for every input. Where a call is refused its bytes are
-- unchanged: at exit they are `got_or` those at entry. Assumes nothing.
use Rattle.std.specs.Prelude.{ℕ, ◌+◌, ◌-◌, cond, List, eqb, length}
use Rattle.le.specs.Le.{part, patch}
use Rattle.le.specs.Field.{u32}
use Rattle.text.specs.Answer.{Answer, Refused, Got, ◌>>=◌, must, given}
use Rattle.bar.specs.declared.Bar.{Bar}
use Rattle.sheet.specs.Sheet.{Sheet}
use Rattle.table.specs.Layout.{table_length}
use Rattle.table.specs.Table.{read_table}
use Rattle.position.specs.Step.{Going, step_head, settle, new_hold}
use Rattle.position.specs.Feed.{Input, line_input, admitted, Accepted, reported}
use Rattle.book.specs.Layout.{capacity, head_bytes, head_of, hold_bytes, hold_of, records_bytes, fresh_book, hold_place, record_place}
use Rattle.book.specs.Check.{header_ok, full_ok}

-- "8 table not 32,768 bytes, book .. not 96 + 64C for a C in range": C
abbrev pub sized : List ℕ → List ℕ → Answer ℕ
sized table b = must 8 (eqb (length table) table_length) >>= λ _. given 8 (capacity b)

-- "book or image not 96 + 64C .., the two unequal"
abbrev pub sized_pair : List ℕ → List ℕ → List ℕ → Answer ℕ
sized_pair table b image = sized table b >>= λ c. must 8 (eqb (length image) (length b)) >>= λ _. Got c

-- 9, 10: the sheet of the table, where the bytes pass the full check
unfoldable pub checked : List ℕ → ℕ → List ℕ → Answer Sheet
checked table c b = do
  s ← read_table table
  _ ← must 10 (full_ok (length s.events) c b)
  Got s

-- "Fresh: 8."
unfoldable pub fresh_do : List ℕ → Answer (List ℕ)
fresh_do b = do
  c ← given 8 (capacity b)
  Got (fresh_book c)

-- the open lots of a book: those of its last hold, if it has one
unfoldable pub open_lots_in : List ℕ → ℕ
open_lots_in b = let hs = u32 b 0 in cond (eqb hs 0) 0 (hold_of (part b (hold_place (hs - 1)) 32)).lots

-- the book with its last hold's yield worked out, where there is one
unfoldable pub settled : Bar → List ℕ → List ℕ
settled bar b =
    let hs = u32 b 0 in
    let at = hold_place (hs - 1) in
    let later = patch b at (hold_bytes (settle bar (hold_of (part b at 32)))) in
    cond (eqb hs 0) b later

-- the book after an accepted bar: the last hold settled, a hold behind H, the records behind R, the header
unfoldable pub fed : ℕ → Bar → Going → List ℕ → List ℕ
fed c bar g b =
    let hs = u32 b 0 in
    let rs = u32 b 4 in
    let holds = patch (settled bar b) (hold_place hs) (hold_bytes (new_hold bar g)) in
    let records = patch holds (record_place c rs) (records_bytes g.wrote) in
    patch records 0 (head_bytes c (hs + 1) (rs + length g.wrote) g.head)

-- "A feed: 8, 9, 10, .., 11, signals (..), 13, 14." "Feeds make the header check". What reaches it is asked for behind 10.
unfoldable pub feed_on : List ℕ → List ℕ → Answer Input → Answer (Accepted (List ℕ))
feed_on table b input = do
  c ← sized table b
  s ← read_table table
  _ ← must 10 (header_ok c b)
  i ← input
  f ← admitted c (u32 b 0) (head_of b).end i
  let g = step_head s f.bar f.signals (open_lots_in b) (head_of b)
  Got (record { after = fed c f.bar g b; report = reported s f.signals g })

-- a feed of four numbers and the signals' text
unfoldable pub feed_do : List ℕ → List ℕ → Input → Answer (Accepted (List ℕ))
feed_do table b i = feed_on table b (Got i)

-- a feed of the exchange's line and the signals' text: "16 .., checked after 10; 17 .., checked after 16 and before 11"
unfoldable pub feed_line_do : List ℕ → List ℕ → List ℕ → List ℕ → Answer (Accepted (List ℕ))
feed_line_do table b line signals = feed_on table b (line_input line signals)

-- the book at exit
abbrev pub feed_bytes : List ℕ → Answer (Accepted (List ℕ)) → List ℕ
feed_bytes b (Refused n) = b
feed_bytes b (Got a) = a.after

-- "Save and restore: 8, 9, 10."; "Saving copies the book": the image at exit
unfoldable pub save_do : List ℕ → List ℕ → List ℕ → Answer (List ℕ)
save_do table b image = do
  c ← sized_pair table b image
  _ ← checked table c b
  Got b

-- "restoring copies an image back"; "on the image alone, restores the full one": the book at exit
unfoldable pub restore_do : List ℕ → List ℕ → List ℕ → Answer (List ℕ)
restore_do table b image = do
  c ← sized_pair table b image
  _ ← checked table c image
  Got image
