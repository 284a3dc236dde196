-- What saves and restores share once the lengths are right. Assumes nothing.
use Rattle.std.specs.Prelude.{ℕ, List}
use Rattle.text.specs.Answer.{Answer, Got, ◌>>=◌}
use Rattle.book.specs.Calls.{checked}

-- "9, 10": the bytes, where they pass the full check
unfoldable pub copy_do : List ℕ → ℕ → List ℕ → Answer (List ℕ)
copy_do table c from = checked table c from >>= λ _. Got from
