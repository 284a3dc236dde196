-- What a request for a pair row answers, and the row buffer at exit. Assumes nothing.
use Rattle.row.specs.Read.{row_read_of}
use Rattle.row.specs.declared.RowError.{RowError}
use Rattle.std.specs.Prelude.{ℕ, ◌≡◌, List, ℤ, Result}
use Rattle.text.specs.Answer.{Got, ◌>>=◌}
use Rattle.position.specs.declared.PairRow.{PairRow}
use Rattle.row.specs.Calls.{pair_do, pair_bytes, pair_row}

-- r is row i of the book b, and the buffer that was `before` has its texts
pub record PairAs (t b : List ℕ) (i : ℤ) (before after : List ℕ) (r : Result PairRow RowError) : Type 0 where
  pub is : row_read_of r ≡ (pair_do t b i before >>= λ p. Got (pair_row p))
  pub bytes : after ≡ pair_bytes before (pair_do t b i before)
