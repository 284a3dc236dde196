-- What all rows of a book print, and what is known of a book whose rows are printed. Assumes nothing.
use Rattle.std.specs.Prelude.{ℕ, ◌≡◌, None, Some, Option, slice_get}
use mathlib.Core.List.{List, flat_map}
use Rattle.text.specs.Answer.{Got}
use Rattle.sheet.specs.Sheet.{Sheet}
use Rattle.table.specs.Layout.{parts_in}
use Rattle.table.specs.Table.{sheet_of, read_table}
use Rattle.position.specs.State.{State}
use Rattle.position.specs.Rows.{Pair, pairs_of, hold_rows}
use Rattle.position.specs.Run.{run_bars, pair_line, hold_line}
use Rattle.book.specs.Layout.{records_of, holds_of}
use Rattle.history.proofs.Invariant.{BookOf}
use Rattle.run_fields.specs.Fields.{ShortPut}
use Rattle.run_output.specs.Shown.{pair_room, hold_room}

-- the book of a state that bars can reach, with room for 900 of them, and the table of its sheet
pub record Booked (table b : List ℕ) : Type 0 where
  pub sheet : Sheet
  pub state : State
  pub meant : read_table table ≡ Got sheet
  pub book : BookOf sheet state b
  pub bars : book.bars ≡ run_bars

-- ---- the rows

abbrev pub pair_rows : List ℕ → List ℕ → List Pair
pair_rows table b = pairs_of (sheet_of (parts_in table)) (records_of run_bars b)

-- "pairs as R"
unfoldable pub pair_lines : List ℕ → List ℕ → List ℕ
pair_lines table b = flat_map pair_line (pair_rows table b)

-- "holds as H"
unfoldable pub hold_lines : List ℕ → List ℕ
hold_lines b = flat_map hold_line (hold_rows (holds_of b))

-- ---- printed one behind another

-- row number i was printed, or there is none
abbrev pub RowAdded : {X : Type 0} → List X → (X → List ℕ) → ℕ → ℕ → List ℕ → List ℕ → ℕ → Option ℕ → Type 0
RowAdded {X} rows text n i before after at (Some r) = (x : X) × (slice_get rows i ≡ Some x) × ShortPut n before after at (text x) r
RowAdded rows text n i before after at None = (slice_get rows i ≡ None) × (after ≡ before)

abbrev pub PairAdded : List ℕ → List ℕ → ℕ → List ℕ → List ℕ → ℕ → Option ℕ → Type 0
PairAdded table b i before after at r = RowAdded (pair_rows table b) pair_line pair_room i before after at r

abbrev pub HoldAdded : List ℕ → List ℕ → ℕ → List ℕ → List ℕ → ℕ → Option ℕ → Type 0
HoldAdded table b i before after at r = RowAdded (hold_rows (holds_of b)) hold_line hold_room i before after at r
