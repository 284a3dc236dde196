-- No table of the first layout is misread: it began with its interval, which is below the layout number. Assumes nothing.
use Prim.Native.Nat.{ℕ, ◌≤◌}
use native.Mathlib.Omega.{arith}
use mathlib.Core.List.{List}
use mathlib.Core.Path.{◌≡◌}
use borrow.Author.Tests.{ne_eqb}
use Rattle.le.specs.Field.{u32}
use Rattle.text.specs.Answer.{Refused}
use Rattle.text.proofs.Tested.{broken}
use Rattle.sheet.specs.Sheet.{interval_limit}
use Rattle.table.specs.Layout.{layout_number, layout_in}
use Rattle.table.specs.Table.{head_ok, is_table, read_table}

pub older_refused : (t : List ℕ) → u32 t 0 ≤ interval_limit → read_table t ≡ Refused 9
unfolding read_table is_table head_ok layout_in
older_refused t h = rw (← broken _ 1 (ne_eqb (u32 t 0) layout_number (omega arith)))
