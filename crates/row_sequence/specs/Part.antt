-- What writing one record's part of the sequence gives. Assumes nothing.
use Rattle.std.specs.Prelude.{ℕ, ◌+◌, ◌≤◌, List, length}
use Rattle.text.specs.Read.{Put}
use Rattle.sheet.specs.Sheet.{name_limit}

-- the most bytes of a part: a name, `@` and `is_match`
abbrev pub part_limit : ℕ
part_limit = name_limit + 9

-- the text t was written, and is no longer than a part may be
pub record PartPut (before after : List ℕ) (at : ℕ) (t : List ℕ) (r : ℕ) : Type 0 where
  pub put : Put before after at t r
  pub short : length t ≤ part_limit
