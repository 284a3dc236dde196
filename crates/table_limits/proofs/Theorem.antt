-- Every sheet that can be read is fine. Assumes nothing.
use Prim.Native.Nat.{ℕ, ◌+◌, ◌≤◌}
use native.Mathlib.Omega.{arith}
use mathlib.Core.Bool.{true}
use mathlib.Core.List.{List}
use Rattle.std.specs.Prelude.{Option, None, Some}
use mathlib.Core.Path.{◌≡◌}
use lib.ListN.{length}
use Rattle.text.specs.Answer.{Got, given}
use Rattle.text.specs.Text.{split, LF, pipe}
use Rattle.text.proofs.Refusals.{Gives, refuses, gives, then_with}
use Rattle.utf8.specs.Alone.{text_limit}
use Rattle.sheet.specs.Sheet.{Sheet}
use Rattle.sheet.specs.Read.{sheet_line, read_sheet}
use Rattle.table_limits.specs.Fine.{fine_sheet}
use Rattle.text.proofs.Joined.{split-length}
use Rattle.table_limits.proofs.Lines.{Line, line_at, lines_keep}
use Rattle.table_limits.proofs.Given.{got_has}
use Rattle.table_limits.proofs.Facts.{sheet_sure}
use Rattle.table_limits.proofs.Fields.{text_gives}
use Rattle.table_limits.proofs.SheetLines.{Fine, position_gives, later_gives}

-- n bytes of a text are left, and the sheet that was read so far is fine
abbrev Kept : ℕ → Option Sheet → Type 0
Kept n None = n ≤ text_limit
Kept n (Some s) = Fine n s

line_keeps : (n : ℕ) (o : Option Sheet) (p : List ℕ) → Line p → Kept (length p + n) o → Gives (Kept n) (sheet_line o (split pipe p))
line_keeps n None p l h = then_with (position_gives n p l h) (λ s k. gives k)
line_keeps n (Some s) p l k = then_with (later_gives n p l s k) (λ t h. gives h)

pub sheet_gives : (s : List ℕ) → Gives (λ sheet. fine_sheet sheet ≡ true) (read_sheet s)
unfolding read_sheet
sheet_gives s =
    then_with (text_gives s)
    (λ _ t. then_with (lines_keep sheet_line Kept line_keeps (split LF s) (line_at s t.right) None (omega (arith, split-length LF s, t.short)))
    last)
  where
    last : (o : Option Sheet) → Kept 0 o → Gives (λ sheet. fine_sheet sheet ≡ true) (given 2 o)
    last None k = refuses
    last (Some sheet) k = gives (sheet_sure sheet k.facts)

-- the theorem
pub sheet-fine : (s : List ℕ) (sh : Sheet) → read_sheet s ≡ Got sh → fine_sheet sh ≡ true
sheet-fine s sh e = got_has sh (sheet_gives s) e
