-- What the reading of one later line, and of all from a place on, means, for the contracts of the lines' functions. Assumes nothing.
use Rattle.sheet.specs.declared.SheetError.{SheetError}
use Rattle.std.specs.Prelude.{ℕ, List, length, Some, Result}
use Rattle.std.proofs.Math.Seq.{slice}
use Rattle.text.specs.Answer.{Answer, ◌>>=◌, given}
use Rattle.text.specs.Text.{split, LF, each_line}
use Rattle.sheet.specs.Sheet.{Sheet}
use Rattle.sheet.specs.Read.{later_line, sheet_line}
use Rattle.sheet.specs.Places.{fields_of, sheet_at, SheetIs}
use Rattle.sheet.specs.declared.SheetAt.{SheetAt}

-- The sheet so far is `a`, with es and cs; r is what it says with one line more, and es' and cs' are its numbers then.

-- a line from..to
abbrev pub LineAs : List ℕ → ℕ → ℕ → SheetAt → List ℕ → List ℕ → List ℕ → List ℕ → Result SheetAt SheetError → Type 0
LineAs s from to a es cs es' cs' r = SheetIs s es' cs' (later_line (sheet_at s es cs a) (fields_of s from to)) r

-- what a sheet becomes by all lines from a place on
abbrev pub lines_on : List ℕ → Sheet → ℕ → Answer Sheet
lines_on s p from = each_line sheet_line (Some p) (split LF (slice from (length s) s)) >>= given 2

-- all lines from a place on
abbrev pub LinesAs : List ℕ → ℕ → SheetAt → List ℕ → List ℕ → List ℕ → List ℕ → Result SheetAt SheetError → Type 0
LinesAs s from a es cs es' cs' r = SheetIs s es' cs' (lines_on s (sheet_at s es cs a) from) r
