-- The counts of a book that passed the full check, and each refusal. Assumes nothing.
use Rattle.book.specs.declared.OpenError.{OpenError}
use Rattle.book.specs.Opened.{open_refusal}
use Rattle.std.specs.Prelude.{Ok, Err}
use Prim.Native.Nat.{ℕ}
use mathlib.Core.Path.{◌≡◌, ◌∙◌, sym, ap, ap₂}
use mathlib.Core.List.{List}
use lib.ListN.{length, length-map}
use Rattle.le.specs.Field.{u32}
use Rattle.text.specs.Answer.{Refused, Got}
use Rattle.sheet.specs.Sheet.{Sheet}
use Rattle.table.specs.Layout.{parts_in}
use Rattle.table.specs.Table.{sheet_of}
use Rattle.position.specs.Rows.{pairs_of, hold_rows}
use Rattle.book.specs.Layout.{records_of, holds_of}
use Rattle.row_open.specs.Open.{OpenedAs}
use Rattle.row_open.proofs.Laws.{opened, not_opened}
use Rattle.row_blocks.specs.Blocks.{hold_row_bytes, counts_do}
use Rattle.row_blocks.specs.declared.RowCounts.{RowCounts}
use Rattle.row_blocks_holds.proofs.Row.{rows-length}

module _ (t b : List ℕ) where
  -- the counts of a book of c bars, by the sheet
  abbrev counted : ℕ → Sheet → RowCounts
  counted c s = record { holds = length (hold_rows (holds_of b)); pairs = length (pairs_of s (records_of c b)) }

  pub no_book : {e : OpenError} → OpenedAs t b (Err e) → Refused (open_refusal e) ≡ counts_do t b
  unfolding counts_do
  no_book z = not_opened (λ c s. Got (counted c s)) z

  pub passed : {c h p : ℕ} → OpenedAs t b (Ok c) → h ≡ u32 b 0 → p ≡ length (pairs_of (sheet_of (parts_in t)) (records_of c b)) → Got (record { holds = h; pairs = p }) ≡ counts_do t b
  unfolding counts_do
  passed {h = h} {p} z e f =
      let held : h ≡ length (hold_rows (holds_of b)) = e ∙ sym (rows-length b) ∙ length-map (hold_rows (holds_of b)) hold_row_bytes in
      ap Got (ap₂ (λ (x y : ℕ). record { holds = x; pairs = y }) held f) ∙ opened (λ c s. Got (counted c s)) z
