-- What is known while the run program compiles its sheet, and what it prints. Assumes nothing.
use Rattle.std.specs.Prelude.{ℕ, ◌≤◌, ◌≡◌, List, [], length, replicate, Result, Ok, Err}
use Rattle.text.specs.Answer.{Refused, Got}
use Rattle.text.specs.Read.{Put}
use Rattle.text.proofs.Lines.{lines_from}
use Rattle.sheet.specs.Sheet.{Sheet}
use Rattle.table.specs.Table.{read_table}
use Rattle.position.specs.Run.{input_limit, input_line, read_input, run_do}
use Rattle.run_feed.specs.Steps.{output_room, asked}

-- the sheet is compiled, and the lines behind `-` start at `from`; out has zeros
pub record Begun (s table out : List ℕ) (from : ℕ) : Type 0 where
  pub sheet : Sheet
  pub meant : read_table table ≡ Got sheet
  pub read : read_input s ≡ asked sheet (lines_from input_line [] s from)
  pub within : from ≤ length s
  pub short : length s ≤ input_limit
  pub clear : out ≡ replicate (length out) 0
  pub space : output_room ≤ length out

-- what is printed was written over the zeros of out, or the input is refused with the error's number
abbrev pub RanAs : {E : Type 0} → (E → ℕ) → List ℕ → List ℕ → List ℕ → Result ℕ E → Type 0
RanAs refusal s out more (Ok n) = Put (replicate (length out) 0) more 0 (run_do s) n
RanAs refusal s out more (Err e) = read_input s ≡ Refused (refusal e)
