-- The number of each refusal of an input. Assumes nothing.
use Rattle.std.specs.Prelude.{ℕ}
use Rattle.table_compile.specs.Outcome.{compile_refusal}
use Rattle.run_input.specs.Lines.{input_refusal}
use Rattle.run_text.specs.declared.RunError.{RunError}
use Rattle.run_text.specs.declared.RunError.TheVariants.{PastLimit, Input, Compile}

abbrev pub run_refusal : RunError → ℕ
run_refusal PastLimit = 7
run_refusal (Input e) = input_refusal e
run_refusal (Compile e) = compile_refusal e
