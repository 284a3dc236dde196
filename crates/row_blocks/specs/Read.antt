-- What requests for blocks and counts answer, and the buffer at exit. Assumes nothing.
use Rattle.row.specs.Read.{row_read_of}
use Rattle.row.specs.declared.RowError.{RowError}
use Rattle.std.specs.Prelude.{ℕ, ◌≡◌, length, Result}
use mathlib.Core.List.{List, flatten}
use Rattle.le.specs.Le.{patch}
use Rattle.text.specs.Answer.{Answer, Got, ◌>>=◌}
use Rattle.row_blocks.specs.Blocks.{fitting, block_of, block_bytes}
use Rattle.row_blocks.specs.declared.Block.{Block}

-- those of the rows that fit were written to the start of the buffer, and q tells their count and length
pub record Filled (rows : List (List ℕ)) (before after : List ℕ) (q : Block) : Type 0 where
  pub is : q ≡ block_of (fitting (length before) rows)
  pub bytes : after ≡ patch before 0 (flatten (fitting (length before) rows))

-- r is the block of the rows d, and the buffer that was `before` has them
pub record BlockAs (d : Answer (List (List ℕ))) (before after : List ℕ) (r : Result Block RowError) : Type 0 where
  pub is : row_read_of r ≡ (d >>= λ rows. Got (block_of rows))
  pub bytes : after ≡ block_bytes before d
