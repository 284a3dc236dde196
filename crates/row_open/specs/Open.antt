-- What opening a book for its rows answers, and what is then known. Assumes nothing.
use Rattle.std.specs.Prelude.{ℕ, ◌≡◌, true, List, Result, Ok, Err}
use Rattle.text.specs.Answer.{Answer, Refused, Got, ◌>>=◌}
use Rattle.sheet.specs.Sheet.{Sheet}
use Rattle.table.specs.Layout.{counts_in, parts_in}
use Rattle.table.specs.Table.{is_table, sheet_of}
use Rattle.book.specs.Check.{full_ok}
use Rattle.book.specs.Calls.{sized, checked}
use Rattle.book.specs.Opened.{open_refusal}
use Rattle.book.specs.declared.OpenError.{OpenError}
use Rattle.book_header.specs.Size.{SizeOk}

-- how many bars the book has room for, and the sheet of its table
pub record Opened : Type 0 where
  pub bars : ℕ
  pub sheet : Sheet

-- 8, 9, 10: both lengths, then the full check
abbrev pub open_do : List ℕ → List ℕ → Answer Opened
open_do t b = do
  c ← sized t b
  s ← checked t c b
  Got (record { bars = c; sheet = s })

-- the bars with the sheet s, or the number of a refusal
abbrev pub opening_of : Sheet → Result ℕ OpenError → Answer Opened
opening_of s (Ok c) = Got (record { bars = c; sheet = s })
opening_of s (Err e) = Refused (open_refusal e)

-- a book b of c bars of the table t, both checked in full
pub record Passed (t b : List ℕ) (c : ℕ) : Type 0 where
  pub size : SizeOk b c
  pub table : is_table t ≡ true
  pub book : full_ok (counts_in t).events c b ≡ true

-- what is known behind a request that is not refused
abbrev pub PassedOk : List ℕ → List ℕ → Result ℕ OpenError → Type 0
PassedOk t b (Ok c) = Passed t b c
PassedOk t b (Err e) = Unit {0}

-- r is what the table t and the book b give
pub record OpenedAs (t b : List ℕ) (r : Result ℕ OpenError) : Type 0 where
  pub is : opening_of (sheet_of (parts_in t)) r ≡ open_do t b
  pub ok : PassedOk t b r
