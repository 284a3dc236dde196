-- Why a request for rows is refused, and a row's index. Assumes nothing.
use Rattle.std.specs.Prelude.{ℕ, ℤ, pos, negsuc, Result, Ok, Err}
use Rattle.text.specs.Answer.{Answer, Refused, Got}
use Rattle.book.specs.Opened.{open_refusal}
use Rattle.row.specs.declared.RowError.{RowError}
use Rattle.row.specs.declared.RowError.TheVariants.{Open, PastLast}

-- the number of each
abbrev pub row_refusal : RowError → ℕ
row_refusal (Open e) = open_refusal e
row_refusal PastLast = 15

-- what is had of rows, or that number
abbrev pub row_read_of : {X : Type 0} → Result X RowError → Answer X
row_read_of (Ok x) = Got x
row_read_of (Err e) = Refused (row_refusal e)

-- an index from 0; one below 0 is past the last
abbrev pub index_of : ℤ → Result ℕ RowError
index_of (pos k) = Ok k
index_of (negsuc k) = Err PastLast
