-- Why a book is not opened. Assumes nothing.
use Rattle.std.specs.Prelude.{ℕ, Result, Ok, Err}
use Rattle.text.specs.Answer.{Answer, Refused, Got}
use Rattle.book.specs.declared.OpenError.{OpenError}
use Rattle.book.specs.declared.OpenError.TheVariants.{WrongLength, NotTable, NotBook}

-- the number of each
abbrev pub open_refusal : OpenError → ℕ
open_refusal WrongLength = 8
open_refusal NotTable = 9
open_refusal NotBook = 10

-- what is had of a book, or that number
abbrev pub opened_of : {X : Type 0} → Result X OpenError → Answer X
opened_of (Ok x) = Got x
opened_of (Err e) = Refused (open_refusal e)
