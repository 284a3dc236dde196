-- Compiling: its number, and what the table's bytes are at exit. The free part is the layout, "of which decoding to the sheet holds". Assumes nothing.
use Rattle.std.specs.Prelude.{ℕ, ◌≡◌, List, eqb, length, drop, replicate}
use Rattle.text.specs.Answer.{Answer, Refused, Got, ◌>>=◌, must}
use Rattle.sheet.specs.Sheet.{Sheet}
use Rattle.sheet.specs.Read.{read_sheet}
use Rattle.table.specs.Layout.{table_length, places_in}
use Rattle.table.specs.Table.{read_table}

-- "Compiling checks 8, text length, 1, then each line"
unfoldable pub compile_do : List ℕ → List ℕ → Answer Sheet
compile_do text table = do
  _ ← must 8 (eqb (length table) table_length)
  read_sheet text

-- the table means the sheet, with "zeros after" what is used
pub record Means (table : List ℕ) (s : Sheet) : Type 0 where
  pub meant : read_table table ≡ Got s
  pub rest : drop (places_in table).used table ≡ replicate (length (drop (places_in table).used table)) 0

-- the bytes at exit, where the answer is this
abbrev pub Compiled : Answer Sheet → List ℕ → List ℕ → Type 0
Compiled (Refused n) before after = after ≡ before
Compiled (Got s) before after = Means after s
