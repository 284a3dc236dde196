-- What the reading of a clause's line means, for the contract of its function. Assumes nothing.
use Rattle.sheet.specs.declared.SheetError.{SheetError}
use Rattle.std.specs.Prelude.{ℕ, List, [], ◌∷◌, Result}
use Rattle.sheet.specs.Sheet.{kind_of}
use Rattle.sheet.specs.Read.{clause_line}
use Rattle.sheet.specs.Places.{fields_of, sheet_at, SheetIs}
use Rattle.sheet.specs.declared.SheetAt.{SheetAt}
use Rattle.sheet_clause.specs.declared.ClauseKind.{ClauseKind}
use Rattle.sheet_clause.specs.declared.ClauseKind.TheVariants.{All, Any, Not}

-- the number of a kind that is kept
abbrev pub kind_number : ClauseKind → ℕ
kind_number All = 0
kind_number Any = 1
kind_number Not = 2

-- The sheet so far is `a`, with es and cs; r is what it says with one line more, and es' and cs' are its numbers then.

-- a clause line, whose fields behind the tag are from..to
abbrev pub ClauseLineAs : List ℕ → ℕ → ℕ → ℕ → SheetAt → List ℕ → List ℕ → List ℕ → List ℕ → Result SheetAt SheetError → Type 0
ClauseLineAs s from to kind a es cs es' cs' r = SheetIs s es' cs' (clause_line (kind_of kind) (sheet_at s es cs a) ([] ∷ fields_of s from to)) r
