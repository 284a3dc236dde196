-- What the full check answers. Assumes nothing.
use Rattle.book.specs.declared.OpenError.{OpenError}
use Rattle.book.specs.Opened.{open_refusal}
use Rattle.std.specs.Prelude.{ℕ, ◌≡◌, true, List, Result, Ok, Err}
use Rattle.text.specs.Answer.{Answer, Refused, Got}
use Rattle.sheet.specs.Sheet.{Sheet}
use Rattle.table.specs.Layout.{counts_in, parts_in}
use Rattle.table.specs.Table.{is_table, sheet_of}
use Rattle.book.specs.Check.{full_ok}
use Rattle.book.specs.Calls.{checked}

-- the number of each answer; where the check is passed, s
abbrev pub checked_of : Sheet → Result (Unit {0}) OpenError → Answer Sheet
checked_of s (Ok u) = Got s
checked_of s (Err e) = Refused (open_refusal e)

-- what is then known
abbrev pub PassedOk : List ℕ → ℕ → List ℕ → Result (Unit {0}) OpenError → Type 0
PassedOk t c b (Ok u) = (is_table t ≡ true) × (full_ok (counts_in t).events c b ≡ true)
PassedOk t c b (Err e) = Unit {0}

-- r is what the table t and the book b of c bars give
pub record CheckedAs (t : List ℕ) (c : ℕ) (b : List ℕ) (r : Result (Unit {0}) OpenError) : Type 0 where
  pub is : checked_of (sheet_of (parts_in t)) r ≡ checked t c b
  pub ok : PassedOk t c b r
